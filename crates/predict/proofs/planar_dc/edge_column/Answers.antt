-- `planar_dc::edge_column` meets its contract. The first column of the DC edge: the loop keeps an equation with `heads`.
use borrow.Author.Rules.{rules}
use Rattle.predict.specs.planar_dc.Stores.{heads_none, heads_more}
use Rattle.predict.proofs.planar_dc.edge_column.Goals as goal

pub loop-row-init : goal.loop-row-init
loop-row-init c = (search rules, (search rules, heads_none _ _ _))

pub loop-row-preserved : goal.loop-row-preserved
loop-row-preserved c = (search rules, (search rules, heads_more _ _ _ c.loop-row.invariant.1.1 c.blend.ensures))
