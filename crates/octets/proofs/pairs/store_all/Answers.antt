-- Samples of a list: put together in pairs, their bytes are stored. Assumes nothing.
use mathlib.Core.Path.{◌∙◌}
use Rattle.octets.specs.pairs.Words.{spread_is}
use borrow.Author.Rules.{rules}
use Rattle.octets.proofs.pairs.store_all.Goals as goal

pub returns : goal.returns
returns c = let a = c.args in
    c.spread.ensures ∙ spread_is a.samples.now _ _ (search rules) c.pairs_of.ensures a.out.now
