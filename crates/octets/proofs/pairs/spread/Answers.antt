-- `pairs::spread` meets its contract: the bytes of the numbers passed are stored. Assumes nothing.
use Rattle.std.proofs.Common.{ℕ, get_or, refl, ◌∙◌}
use Rattle.laws.specs.FillLaws.{fill_none}
use Rattle.octets.specs.pairs.Words.{word_more}
use Rattle.octets.proofs.pairs.spread.Goals as goal

pub loop-i-init : goal.loop-i-init
loop-i-init c = fill_none _ _

pub loop-i-preserved : goal.loop-i-preserved
loop-i-preserved c = let s = c.args in
    c.put_word.ensures ∙ word_more (λ (j : ℕ). get_or s.words.now j 0) s.out.now c.loop-i.i c.loop-i.invariant refl
