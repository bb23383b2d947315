-- `angular::mix_row` meets its contract. The loop makes a run, one entry a turn. Assumes nothing.
use mathlib.Core.Path.{◌∙◌}
use borrow.Author.Rules.{rules}
use Rattle.laws.specs.FillLaws.{run_none, run_more}
use Rattle.samples.specs.taps.Laws.{by_fraction}
use Rattle.predict.proofs.angular.mix_row.Goals as goal

pub loop-c-init : goal.loop-c-init
loop-c-init c = (search rules, (search rules, run_none _ _ _))

pub loop-c-preserved : goal.loop-c-preserved
loop-c-preserved c = (search rules, (search rules, run_more _ _ _ c.loop-c.invariant.1.1 (c.interp.ensures ∙ by_fraction _ _ _ c.requires.0)))
