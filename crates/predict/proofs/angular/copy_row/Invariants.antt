use Prim.Native.Nat.{ℕ, ◌+◌, ◌-◌, ◌≤◌}
use mathlib.Core.Path.{◌≡◌}
use lib.ListN.{length, get_or}
use Rattle.laws.specs.Fill.{run}
use Rattle.predict.proofs.angular.copy_row.Given as goal

abbrev pub invariant-loop-c : goal.invariant-loop-c
invariant-loop-c l = (l.c ≤ l.n) × ((length l.pred ≡ length l.initial.pred) × (l.pred ≡ run (λ (k : ℕ). get_or l.refs (l.s + k) 0) l.at l.c l.initial.pred))

abbrev pub decreases-loop-c : goal.decreases-loop-c
decreases-loop-c l = l.n - l.c
