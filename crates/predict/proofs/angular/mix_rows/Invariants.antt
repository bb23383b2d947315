use mathlib.Core.Path.{◌≡◌}
use Prim.Native.Nat.{◌-◌, ◌≤◌}
use lib.ListN.{length}
use Rattle.predict.specs.angular.Lines.{line_at}
use Rattle.laws.specs.Fill.{rows}
use Rattle.predict.proofs.angular.mix_rows.Given as goal

abbrev pub invariant-loop-r : goal.invariant-loop-r
invariant-loop-r l = (l.r ≤ l.n) × ((length l.pred ≡ length l.initial.pred) × (l.pred ≡ rows (line_at l.refs l.b l.e) l.n l.r l.initial.pred))

abbrev pub decreases-loop-r : goal.decreases-loop-r
decreases-loop-r l = l.n - l.r
