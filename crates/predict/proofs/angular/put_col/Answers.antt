-- `angular::put_col` meets its contract. The loop makes a column, one entry a turn. Assumes nothing.
use mathlib.Core.Path.{refl}
use borrow.Author.Rules.{rules}
use Rattle.predict.specs.angular.Grid.{column_none, column_more}
use Rattle.predict.proofs.angular.put_col.Goals as goal

pub loop-r-init : goal.loop-r-init
loop-r-init c = (search rules, (search rules, column_none _ _ _ _))

pub loop-r-preserved : goal.loop-r-preserved
loop-r-preserved c = (search rules, (search rules, column_more _ _ _ _ c.loop-r.invariant.1.1 (refl)))
