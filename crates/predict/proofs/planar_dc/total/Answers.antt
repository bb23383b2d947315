-- `planar_dc::total` meets its contract. The sum of both rows: the loop keeps a `Total`.
use native.Mathlib.Omega.{arith}
use borrow.Author.Rules.{rules}
use Rattle.predict.specs.planar_dc.Text.{total_none, total_more}
use Rattle.predict.proofs.planar_dc.total.Goals as goal

pub loop-i-init : goal.loop-i-init
loop-i-init c = (search rules, total_none _)

pub loop-i-preserved : goal.loop-i-preserved
loop-i-preserved c = let l = c.loop-i in
    (search rules, total_more _ l.i l.all l.invariant.1 (omega (arith, c.shared_slice_known-1.given c.loop-i.i)) (omega (arith, c.shared_slice_known-in-loop-i-1.given c.loop-i.i)))
