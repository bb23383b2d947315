-- `planar_dc::put_row` meets its contract. Samples into the block: the loop keeps an equation with `run`.
use mathlib.Core.Path.{refl}
use borrow.Author.Rules.{rules}
use Rattle.laws.specs.FillLaws.{run_none, run_more}
use Rattle.predict.proofs.planar_dc.put_row.Goals as goal

pub loop-col-init : goal.loop-col-init
loop-col-init c = (search rules, (search rules, run_none _ _ _))

pub loop-col-preserved : goal.loop-col-preserved
loop-col-preserved c = (search rules, (search rules, run_more _ _ _ c.loop-col.invariant.1.1 (refl)))
