-- `angular::pure_vertical` meets its contract. The block is the row above over and over, and the edge its first column written anew. Assumes nothing.
use mathlib.Core.Path.{refl, sym, ap, ◌∙◌}
use native.Mathlib.Omega.{arith}
use Rattle.domain.specs.Facts.{size_small}
use Rattle.fmt.specs.depth.Laws.{largest_of_is}
use Rattle.predict.specs.angular.Reach.{within}
use Rattle.predict.specs.angular.Grid.{column}
use Rattle.predict.specs.angular.Blocks.{upright, upright_edge}
use Rattle.predict.specs.angular.Parts.{from_first, some}
use borrow.Author.Rules.{rules}
use Rattle.predict.proofs.angular.pure_vertical.Goals as goal

pub copies-requires : goal.copies-requires
copies-requires c = let p = c.requires in
    let h = (size_small _ p.1.0).1 in
    (p.1.0, (refl, (record { angle = omega arith; base = omega arith; near = omega arith; size = h; refs = within _ _ _ _ (search rules); room = search rules }, omega arith)))

pub returns-then-filtered : goal.returns-then-filtered
returns-then-filtered c = let a = c.args in
    let p = c.requires in
    c.edge_down.ensures ∙ ap (column _ 0 a.n a.n) (c.copies.ensures ∙ from_first a.above.now 0 32 a.n a.pred.now (some p.1.0)) ∙ upright_edge a.corner a.above.now a.left.now a.bits a.n a.edge p.1.0 a.pred.now _ (c.largest_of.ensures ∙ largest_of_is a.bits p.0) (sym c.filtered.ensures ∙ c.if-filtered.true) p.1.1.1.1

pub returns-else-filtered : goal.returns-else-filtered
returns-else-filtered c = let a = c.args in
    c.copies.ensures ∙ from_first a.above.now 0 32 a.n a.pred.now (some c.requires.1.0) ∙ upright a.corner a.above.now a.left.now a.bits a.n a.edge c.requires.1.0 a.pred.now (sym c.filtered.ensures ∙ c.if-filtered.false)
