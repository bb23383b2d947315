-- `angular::flats_n` meets its contract. The loop makes the block row by row. Assumes nothing.
use mathlib.Core.Path.{◌∙◌}
use borrow.Author.Rules.{rules}
use Rattle.laws.specs.FillLaws.{rows_none, rows_more}
use Rattle.predict.proofs.angular.flats_n.Goals as goal

pub loop-r-init : goal.loop-r-init
loop-r-init c = (search rules, (search rules, rows_none _ _ _))

pub loop-r-preserved : goal.loop-r-preserved
loop-r-preserved c = (search rules, (search rules, c.flat_row.ensures ∙ rows_more _ _ _ _ c.loop-r.invariant.1.1))
