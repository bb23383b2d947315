-- The work of the luma gather: nothing is read outside the plane. Assumes nothing.
use Rattle.refs.specs.Served.{luma_inside, luma_made}
use Rattle.refs.proofs.luma_rows.Goals as goal

pub plane_rows-requires : goal.plane_rows-requires
plane_rows-requires c = luma_inside c.args.plane.now c.args.geo c.requires.0 c.requires.1 c.requires.2

pub returns : goal.returns
returns c = luma_made c.args.plane.now c.args.geo c.requires.0 c.requires.1 c.requires.2 c.neutral_of.ensures c.plane_rows.ensures
