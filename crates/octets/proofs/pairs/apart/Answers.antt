-- `pairs::apart` meets its contract: the numbers passed are taken apart. Assumes nothing.
use Rattle.std.proofs.Common.{refl}
use Rattle.laws.specs.FillLaws.{fill_none}
use Rattle.octets.specs.pairs.Words.{apart_more}
use Rattle.octets.proofs.pairs.apart.Goals as goal

pub loop-i-init : goal.loop-i-init
loop-i-init c = fill_none _ _

pub loop-i-preserved : goal.loop-i-preserved
loop-i-preserved c = apart_more c.args.words.now c.args.out.now c.loop-i.i c.loop-i.invariant refl refl
