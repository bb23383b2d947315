-- `angular::across_n` meets its contract. The loop makes the block column by column; a column's references stay within 2n. Assumes nothing.
use mathlib.Core.Path.{◌∙◌}
use borrow.Author.Rules.{rules}
use Rattle.predict.specs.angular.Grid.{columns_none, columns_more, columns_done, columns_rows}
use Rattle.predict.specs.angular.Reach.{mix_within}
use Rattle.predict.proofs.angular.across_n.Goals as goal

pub loop-c-init : goal.loop-c-init
loop-c-init c = (search rules, (search rules, columns_none _ _ _))

pub col-requires : goal.col-requires
col-requires c = let w = mix_within c.args.b c.args.e c.loop-c.c c.args.n c.requires.1.1.base c.requires.1.1.size c.loop-c-test.true c.requires.1.0 in
    search rules

pub loop-c-preserved : goal.loop-c-preserved
loop-c-preserved c = let made = rw (c.start.ensures, c.fraction.ensures.0) at c.col.ensures in
    (search rules, (search rules, made ∙ columns_more _ _ _ _ c.loop-c.invariant.1.1))

pub returns : goal.returns
returns c = columns_done _ _ _ c.loop-c.invariant.0 c.loop-c-test.false c.loop-c.invariant.1.1 ∙ columns_rows _ _ _ 0 (search rules) (search rules)
