use Prim.Native.Nat.{ℕ, ◌+◌, ◌*◌}
use mathlib.Core.Path.{◌≡◌}
use lib.ListN.{replicate}
use Rattle.laws.specs.Fill.{fill}
use Rattle.laws.specs.Bytes.{le_at}
use Rattle.report.proofs.file.read_samples.Given as goal

abbrev pub invariant-loop-i : goal.invariant-loop-i
invariant-loop-i l = l.source ≡ fill (λ (j : ℕ). le_at 2 l.b (l.at + 2 * j)) l.i (replicate 8192 0)
