-- `block::rebuild_block` meets its contract: the prediction, then the rows. Rests on both.
use mathlib.Core.Path.{◌∙◌}
use Prim.Native.Nat.{◌≤◌}
use lib.ListN.{length}
use Rattle.fmt.specs.depth.Laws.{largest_of_is}
use Rattle.walk.specs.Lent.{tables}
use Rattle.walk.specs.block.PredictedLaws.{square}
use Rattle.walk.specs.block.RebuiltLaws.{rows_in, holds_it, rebuilt_is}
use borrow.Author.Rules.{rules}
use Rattle.walk.proofs.block.rebuild_block.Goals as goal

pub rebuild_rows-requires : goal.rebuild_rows-requires
rebuild_rows-requires c = let a = c.args in
    let h = c.requires in
    let long : 1024 ≤ length c.predict_block.new.pred = search rules in
    rows_in a.s a.b (length a.plane.now) (tables a.refs.now a.indices.now a.fractions.now) h.0 _ _ a.at _ long h.1 c.base_of.ensures

pub returns : goal.returns
returns c = let a = c.args in
    let h = c.requires in
    let large = c.largest_of.ensures ∙ largest_of_is a.s.bits h.0.depth in
    let there = holds_it a.s a.b a.plane.now _ _ (square a.b h.0.placed.size) c.predict_block.ensures in
    let pred = c.predict_block.new.pred in
    rebuilt_is a.s a.b a.at _ _ pred a.plane.now _ a.residuals.now large c.base_of.ensures there c.rebuild_rows.ensures
