use Prim.Native.Nat.{◌-◌, ◌≤◌}
use Rattle.h265.specs.Notation.{from_rows}
use Rattle.predict.specs.planar_dc.Text.{Total}
use Rattle.predict.proofs.planar_dc.total.Given as goal

abbrev pub invariant-loop-i : goal.invariant-loop-i
invariant-loop-i l = (l.i ≤ l.n) × Total (from_rows 0 l.above l.left) l.i l.all

abbrev pub decreases-loop-i : goal.decreases-loop-i
decreases-loop-i l = l.n - l.i
