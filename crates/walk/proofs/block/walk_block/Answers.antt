-- `block::walk_block` meets its contract: the prediction, then the rows. Rests on both.
use mathlib.Core.Path.{◌∙◌}
use Prim.Native.Nat.{◌≤◌}
use lib.ListN.{length}
use Rattle.fmt.specs.depth.Laws.{largest_of_is}
use Rattle.walk.specs.Lent.{tables}
use Rattle.walk.specs.block.PredictedLaws.{square}
use Rattle.walk.specs.block.RebuiltLaws.{rows_in, holds_it}
use Rattle.walk.proofs.WalkedLaws.{walked_is}
use borrow.Author.Rules.{rules}
use Rattle.walk.proofs.block.walk_block.Goals as goal

pub walk_rows-requires : goal.walk_rows-requires
walk_rows-requires c = let a = c.args in
    let h = c.requires in
    let long : 1024 ≤ length c.predict_block.new.pred = search rules in
    (rows_in a.s a.b (length a.work.now) (tables a.refs.now a.indices.now a.fractions.now) h.0 _ _ a.at _ long h.1.0 c.base_of.ensures, h.1.1)

pub returns : goal.returns
returns c = let a = c.args in
    let h = c.requires in
    let large = c.largest_of.ensures ∙ largest_of_is a.s.bits h.0.depth in
    let there = holds_it a.s a.b a.work.now _ _ (square a.b h.0.placed.size) c.predict_block.ensures in
    let pred = c.predict_block.new.pred in
    let rows = c.walk_rows.ensures in
    walked_is a.s a.b a.at _ _ a.source.now a.work.now _ pred a.residuals.now _ large c.base_of.ensures there h.1.0.resid_in rows.0 rows.1
