use mathlib.Core.Path.{◌≡◌}
use Prim.Native.Nat.{ℕ}
use lib.Dec.{leb}
use Rattle.laws.specs.Every.{pass_to}
use Rattle.errors.proofs.at_most.Given as goal

abbrev pub invariant-loop-figure : goal.invariant-loop-figure
invariant-loop-figure l = l.ok ≡ pass_to (λ (v : ℕ). leb v l.most) 0 l.fn.figures l.figure-index
