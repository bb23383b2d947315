-- `planar_dc::blend_row` meets its contract. The first row of the DC edge: the loop keeps an equation with `fill`.
use borrow.Author.Rules.{rules}
use Rattle.laws.specs.FillLaws.{fill_none, fill_more}
use Rattle.predict.proofs.planar_dc.blend_row.Goals as goal

pub loop-col-init : goal.loop-col-init
loop-col-init c = (search rules, (search rules, fill_none _ _))

pub loop-col-preserved : goal.loop-col-preserved
loop-col-preserved c = (search rules, (search rules, fill_more _ _ c.loop-col.invariant.1.1 c.blend.ensures))
