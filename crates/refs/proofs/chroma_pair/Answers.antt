-- The work of the chroma pair gather: nothing is read outside the planes. Assumes nothing.
use Rattle.refs.specs.Served.{chroma_inside, chroma_made}
use Rattle.refs.proofs.chroma_pair.Goals as goal

pub plane_rows-cb-requires : goal.plane_rows-cb-requires
plane_rows-cb-requires c = (chroma_inside c.args.plane_cb.now c.args.plane_cr.now c.args.geo c.requires.0 c.requires.1 c.requires.2).0

pub plane_rows-cr-requires : goal.plane_rows-cr-requires
plane_rows-cr-requires c = (chroma_inside c.args.plane_cb.now c.args.plane_cr.now c.args.geo c.requires.0 c.requires.1 c.requires.2).1

pub returns : goal.returns
returns c = chroma_made c.args.plane_cb.now c.args.plane_cr.now c.args.geo c.requires.0 c.requires.1 c.requires.2
    c.neutral_of-neutral.ensures c.plane_rows-cb.ensures c.plane_rows-cr.ensures
