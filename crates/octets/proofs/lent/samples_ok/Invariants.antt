use mathlib.Core.Path.{◌≡◌}
use Prim.Native.Nat.{ℕ}
use lib.Dec.{leb}
use Rattle.laws.specs.Every.{pass_to}
use Rattle.octets.proofs.lent.samples_ok.Given as goal

abbrev pub invariant-loop-i : goal.invariant-loop-i
invariant-loop-i g l = l.ok ≡ pass_to (λ (v : ℕ). leb v l.largest) 0 (g.S.Samples.list l.samples) l.i
