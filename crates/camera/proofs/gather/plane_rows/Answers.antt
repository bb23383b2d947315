-- Level rows where no neighbour is there, else the corner and both edges, read into rows of zeros. Assumes nothing.
use mathlib.Core.Path.{refl, ◌∙◌}
use native.Mathlib.Omega.{arith}
use Rattle.octets.specs.Bytes.{samples_of}
use Rattle.refs.specs.Seen.{finish_none}
use Rattle.camera.specs.gather.Around.{around_kept, around_read}
use Rattle.camera.proofs.gather.plane_rows.Goals as goal

pub returns-then-not-r : goal.returns-then-not-r
returns-then-not-r c = let a = c.args in c.level_rows.ensures ∙ finish_none (samples_of a.plane.now) a.s a.r a.n a.neutral (c.if-not-r.true)

pub read_edge-requires : goal.read_edge-requires
read_edge-requires c = ((around_kept (samples_of c.args.plane.now) c.args.s c.args.r c.args.n c.look_around-a.ensures c.requires).0, omega arith)

pub read_edge-requires-2 : goal.read_edge-requires-2
read_edge-requires-2 c = ((around_kept (samples_of c.args.plane.now) c.args.s c.args.r c.args.n c.look_around-a.ensures c.requires).1, omega arith)

pub returns : goal.returns
returns c = around_read (samples_of c.args.plane.now) c.args.s c.args.r c.args.n c.look_around-a.ensures c.args.neutral (c.if-not-r.false) c.requires c.read_edge.ensures c.read_edge-2.ensures refl
