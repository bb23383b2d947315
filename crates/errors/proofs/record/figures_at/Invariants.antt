use mathlib.Core.Path.{◌≡◌}
use Prim.Native.Nat.{ℕ, ◌+◌, ◌*◌}
use lib.ListN.{replicate}
use Rattle.laws.specs.Fill.{fill}
use Rattle.laws.specs.Bytes.{le_at}
use Rattle.errors.proofs.record.figures_at.Given as goal

abbrev pub invariant-loop-m : goal.invariant-loop-m
invariant-loop-m l = l.out ≡ fill (λ (k : ℕ). le_at 8 l.b (l.at + k * 8)) l.m (replicate 35 0)
