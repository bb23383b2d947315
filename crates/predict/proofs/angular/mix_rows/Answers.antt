-- `angular::mix_rows` meets its contract. The loop makes the block row by row; a row's references stay within 2n. Assumes nothing.
use mathlib.Core.Path.{◌∙◌}
use borrow.Author.Rules.{rules}
use Rattle.laws.specs.Weigh.{row_room}
use Rattle.laws.specs.FillLaws.{rows_none, rows_more}
use Rattle.predict.specs.angular.Reach.{mix_within}
use Rattle.predict.proofs.angular.mix_rows.Goals as goal

pub loop-r-init : goal.loop-r-init
loop-r-init c = (search rules, (search rules, rows_none _ _ _))

pub mix_row-requires : goal.mix_row-requires
mix_row-requires c = let w = mix_within c.args.b c.args.e c.loop-r.r c.args.n c.requires.1.base c.requires.1.size c.loop-r-test.true c.requires.0 in
    let h = row_room _ _ c.loop-r-test.true in
    search rules

pub loop-r-preserved : goal.loop-r-preserved
loop-r-preserved c = let made = rw (c.start.ensures, c.fraction.ensures.0) at c.mix_row.ensures in
    (search rules, (search rules, made ∙ rows_more _ _ _ _ c.loop-r.invariant.1.1))
