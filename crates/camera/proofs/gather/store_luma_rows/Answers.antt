-- The work of the luma gather: nothing is read outside the plane's bytes. Assumes nothing.
use mathlib.Core.Path.{refl, ap, ◌∙◌}
use Rattle.domain.specs.declared.rows.Rows.{Rows}
use Rattle.octets.specs.Bytes.{samples_of}
use Rattle.camera.specs.gather.Line.{rows_at}
use Rattle.refs.specs.Served.{luma_inside, luma_made}
use Rattle.camera.proofs.gather.store_luma_rows.Goals as goal

pub store_plane_rows-requires : goal.store_plane_rows-requires
store_plane_rows-requires c = (luma_inside (samples_of c.args.plane.now) c.args.geo c.requires.0 c.requires.1 c.requires.2, c.requires.3)

pub returns : goal.returns
returns c = c.store_plane_rows.ensures
    ∙ ap (λ (v : Rows). rows_at 0 v c.args.out.now)
    (luma_made (samples_of c.args.plane.now) c.args.geo c.requires.0 c.requires.1 c.requires.2 c.neutral_of-neutral.ensures refl)
