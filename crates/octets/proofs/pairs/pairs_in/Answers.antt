-- `pairs::pairs_in` meets its contract: the pairs passed are there. Assumes nothing.
use Rattle.octets.specs.pairs.Words.{paired_none, paired_more}
use Rattle.octets.proofs.pairs.pairs_in.Goals as goal

pub loop-i-init : goal.loop-i-init
loop-i-init c = paired_none _ _

pub loop-i-preserved : goal.loop-i-preserved
loop-i-preserved c = paired_more _ _ c.loop-i.invariant c.pair_in.ensures.0 c.pair_in.ensures.1
