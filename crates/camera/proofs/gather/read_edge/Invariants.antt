use Rattle.std.proofs.Common.{◌≡◌}
use Rattle.laws.specs.Fill.{fill}
use Rattle.octets.specs.Bytes.{samples_of}
use Rattle.refs.specs.Spots.{on_edge}
use Rattle.camera.proofs.gather.read_edge.Given as goal

abbrev pub invariant-loop-i : goal.invariant-loop-i
invariant-loop-i l = l.row ≡ fill (on_edge (samples_of l.plane) l.from l.step) l.i l.initial.row
