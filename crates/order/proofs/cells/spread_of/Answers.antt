-- `cells::spread_of` meets its contract: four bits, written out.
use Rattle.order.specs.cells.Spread.{spread}
use borrow.Author.Rules.{rules}
use Rattle.order.proofs.cells.spread_of.Goals as goal

pub returns : goal.returns
unfolding spread
returns c = search rules
