use Rattle.octets.specs.pairs.Words.{Paired}
use Rattle.octets.proofs.pairs.pairs_of.Given as goal

abbrev pub invariant-loop-i : goal.invariant-loop-i
invariant-loop-i l = Paired l.samples l.i l.initial.words l.words
