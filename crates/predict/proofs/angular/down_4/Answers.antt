-- `angular::down_4` meets its contract. What went by way of the local array is the block. Assumes nothing.
use mathlib.Core.Path.{◌∙◌}
use lib.ListN.{replicate}
use Rattle.predict.specs.angular.Lines.{line_at}
use Rattle.predict.specs.angular.Reach.{block_by_way}
use borrow.Author.Rules.{rules}
use Rattle.predict.proofs.angular.down_4.Goals as goal

pub returns : goal.returns
returns c = let a = c.args in
    c.copy_row.ensures ∙ block_by_way (line_at a.refs.now a.b a.e) _ (replicate 16 0) a.pred.now 4 (search rules) c.mix_rows.ensures
