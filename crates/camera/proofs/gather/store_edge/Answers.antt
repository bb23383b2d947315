-- What is there, what is not, and what is past it, one after the other. Assumes nothing.
use Rattle.octets.specs.Bytes.{samples_of}
use Rattle.refs.specs.Spots.{on_edge}
use Rattle.camera.specs.gather.Stored.{edge_stored}
use Rattle.camera.proofs.gather.store_edge.Goals as goal

pub returns : goal.returns
returns c = let e = c.args.e in
    edge_stored c.args.n e.have e.rest c.args.at (on_edge (samples_of c.args.plane.now) e.at e.step) c.args.out.now c.requires.0.side c.requires.0.few
    c.store_seen.ensures c.store_level.ensures c.store_level-2.ensures
