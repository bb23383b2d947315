use Prim.Native.Nat.{ℕ, ◌-◌, ◌≤◌}
use mathlib.Core.Path.{◌≡◌}
use lib.ListN.{length, get_or}
use Rattle.laws.specs.Fill.{rows}
use Rattle.predict.proofs.angular.flats_n.Given as goal

abbrev pub invariant-loop-r : goal.invariant-loop-r
invariant-loop-r l = (l.r ≤ l.n) × ((length l.pred ≡ length l.initial.pred) × (l.pred ≡ rows (λ (k j : ℕ). get_or l.left k 0) l.n l.r l.initial.pred))

abbrev pub decreases-loop-r : goal.decreases-loop-r
decreases-loop-r l = l.n - l.r
