-- One value where no neighbour is there, else the corner, the row above and the left column. Assumes nothing.
use native.Mathlib.Omega.{arith}
use Rattle.octets.specs.Bytes.{samples_of}
use Rattle.camera.specs.gather.Around.{around_kept}
use Rattle.camera.specs.gather.Stored.{none_stored, some_stored}
use Rattle.camera.proofs.gather.store_plane_rows.Goals as goal

pub returns-then-not-r : goal.returns-then-not-r
returns-then-not-r c = let a = c.args in
    none_stored (samples_of a.plane.now) a.s a.r a.n a.neutral a.at a.out.now (c.if-not-r.true) c.store_level.ensures

pub store_edge-requires : goal.store_edge-requires
store_edge-requires c = ((around_kept (samples_of c.args.plane.now) c.args.s c.args.r c.args.n c.look_around-a.ensures c.requires.0).0, omega (arith, c.requires.1, c.put.auto))

pub store_edge-requires-2 : goal.store_edge-requires-2
store_edge-requires-2 c = ((around_kept (samples_of c.args.plane.now) c.args.s c.args.r c.args.n c.look_around-a.ensures c.requires.0).1, omega (arith, c.requires.1, c.put.auto, c.store_edge.auto))

pub returns : goal.returns
returns c = let a = c.args in
    some_stored (samples_of a.plane.now) a.s a.r a.n a.neutral a.at a.out.now c.look_around-a.ensures (c.if-not-r.false) c.put.ensures
    c.store_edge.ensures c.store_edge-2.ensures
