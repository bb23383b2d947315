use Rattle.std.proofs.Common.{◌≡◌, ◌*◌}
use Rattle.laws.specs.Bytes.{byte_of}
use Rattle.laws.specs.Fill.{run}
use Rattle.octets.specs.Bytes.{samples_of}
use Rattle.refs.specs.Spots.{on_edge}
use Rattle.camera.proofs.gather.store_seen.Given as goal

abbrev pub invariant-loop-i : goal.invariant-loop-i
invariant-loop-i l = l.out ≡ run (byte_of 2 (on_edge (samples_of l.plane) l.from l.step)) (2 * l.at) (2 * l.i) l.initial.out
