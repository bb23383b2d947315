use mathlib.Core.Path.{◌≡◌}
use Prim.Native.Nat.{ℕ, ◌-◌, ◌≤◌}
use lib.ListN.{length}
use Rattle.predict.specs.angular.Lines.{line_at}
use Rattle.predict.specs.angular.Grid.{columns}
use Rattle.predict.proofs.angular.across_n.Given as goal

abbrev pub invariant-loop-c : goal.invariant-loop-c
invariant-loop-c l = (l.c ≤ l.n) × ((length l.pred ≡ length l.initial.pred) × (l.pred ≡ columns (λ (r k : ℕ). line_at l.refs l.b l.e k r) l.n l.c l.initial.pred))

abbrev pub decreases-loop-c : goal.decreases-loop-c
decreases-loop-c l = l.n - l.c
