use Rattle.std.proofs.Common.{◌≡◌, ℕ, ◌*◌, get_or}
use Rattle.laws.specs.Fill.{fill}
use Rattle.laws.specs.Bytes.{byte_of}
use Rattle.octets.proofs.pairs.spread.Given as goal

abbrev pub invariant-loop-i : goal.invariant-loop-i
invariant-loop-i l = l.out ≡ fill (byte_of 4 (λ (j : ℕ). get_or l.words j 0)) (4 * l.i) l.initial.out
