use Rattle.std.proofs.Common.{◌≡◌, ℕ, ◌*◌}
use Rattle.laws.specs.Bytes.{byte_of}
use Rattle.laws.specs.Fill.{run}
use Rattle.camera.proofs.gather.store_level.Given as goal

abbrev pub invariant-loop-i : goal.invariant-loop-i
invariant-loop-i l = l.out ≡ run (byte_of 2 (λ (j : ℕ). l.v)) (2 * l.at) (2 * l.i) l.initial.out
