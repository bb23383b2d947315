use Prim.Native.Nat.{ℕ, ◌-◌, ◌≤◌}
use mathlib.Core.Path.{◌≡◌}
use lib.ListN.{length, get_or}
use Rattle.predict.specs.angular.Grid.{column}
use Rattle.predict.proofs.angular.put_col.Given as goal

abbrev pub invariant-loop-r : goal.invariant-loop-r
invariant-loop-r l = (l.r ≤ l.n) × ((length l.pred ≡ length l.initial.pred) × (l.pred ≡ column (λ (k : ℕ). get_or l.t k 0) l.c l.n l.r l.initial.pred))

abbrev pub decreases-loop-r : goal.decreases-loop-r
decreases-loop-r l = l.n - l.r
