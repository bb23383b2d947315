use Rattle.std.proofs.Common.{◌≡◌, ◌*◌}
use Rattle.laws.specs.Fill.{fill}
use Rattle.octets.specs.pairs.Words.{half_of}
use Rattle.octets.proofs.pairs.apart.Given as goal

abbrev pub invariant-loop-i : goal.invariant-loop-i
invariant-loop-i l = l.out ≡ fill (half_of l.words) (2 * l.i) l.initial.out
