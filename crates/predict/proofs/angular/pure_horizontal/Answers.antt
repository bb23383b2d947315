-- `angular::pure_horizontal` meets its contract. The block is the left samples, and the edge its first row written anew. Assumes nothing.
use mathlib.Core.Path.{sym, ap, ◌∙◌}
use Rattle.fmt.specs.depth.Laws.{largest_of_is}
use Rattle.laws.specs.Fill.{fill}
use Rattle.predict.specs.angular.Blocks.{level, level_edge}
use Rattle.predict.proofs.angular.pure_horizontal.Goals as goal

pub returns-then-filtered : goal.returns-then-filtered
returns-then-filtered c = let a = c.args in
    let p = c.requires in
    c.edge_across.ensures ∙ ap (fill _ a.n) c.flats.ensures ∙ level_edge a.corner a.above.now a.left.now a.bits a.n a.edge p.1.0 a.pred.now _ (c.largest_of.ensures ∙ largest_of_is a.bits p.0) (sym c.filtered.ensures ∙ c.if-filtered.true) p.1.1.1.1

pub returns-else-filtered : goal.returns-else-filtered
returns-else-filtered c = let a = c.args in
    c.flats.ensures ∙ level a.corner a.above.now a.left.now a.bits a.n a.edge c.requires.1.0 a.pred.now (sym c.filtered.ensures ∙ c.if-filtered.false)
