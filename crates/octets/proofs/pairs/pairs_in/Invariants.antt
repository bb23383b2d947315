use Rattle.octets.specs.Bytes.{samples_of}
use Rattle.octets.specs.pairs.Words.{Paired}
use Rattle.octets.proofs.pairs.pairs_in.Given as goal

abbrev pub invariant-loop-i : goal.invariant-loop-i
invariant-loop-i l = Paired (samples_of l.row) l.i l.initial.words l.words
