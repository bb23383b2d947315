use Rattle.std.proofs.Common.{◌≡◌, ℕ, get_or}
use Rattle.laws.specs.Fill.{fill}
use Rattle.octets.specs.Bytes.{samples_of}
use Rattle.camera.proofs.choice.read_samples.Given as goal

abbrev pub invariant-loop-i : goal.invariant-loop-i
invariant-loop-i l = l.out ≡ fill (λ (j : ℕ). get_or (samples_of l.source) j 0) l.i l.initial.out
