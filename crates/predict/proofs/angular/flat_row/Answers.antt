-- `angular::flat_row` meets its contract. The loop makes a run, one entry a turn. Assumes nothing.
use mathlib.Core.Path.{refl}
use borrow.Author.Rules.{rules}
use Rattle.laws.specs.FillLaws.{run_none, run_more}
use Rattle.predict.proofs.angular.flat_row.Goals as goal

pub loop-c-init : goal.loop-c-init
loop-c-init c = (search rules, (search rules, run_none _ _ _))

pub loop-c-preserved : goal.loop-c-preserved
loop-c-preserved c = (search rules, (search rules, run_more _ _ _ c.loop-c.invariant.1.1 (refl)))
