-- The first samples of a row: put together in pairs and taken apart, they are what the bytes spell. Assumes nothing.
use mathlib.Core.Path.{◌∙◌}
use Rattle.octets.specs.Bytes.{samples_of}
use Rattle.octets.specs.pairs.Words.{apart_is}
use borrow.Author.Rules.{rules}
use Rattle.octets.proofs.pairs.read_all.Goals as goal

pub returns : goal.returns
returns c = let a = c.args in
    c.apart.ensures ∙ apart_is (samples_of a.row.now) a.count _ (search rules) c.pairs_in.ensures a.out.now
