-- The work of the chroma pair gather: nothing is read outside the planes' bytes. Assumes nothing.
use mathlib.Core.Path.{refl, ap, ◌∙◌}
use mathlib.Core.List.{List}
use native.Mathlib.Omega.{arith}
use Rattle.domain.specs.declared.rows.Rows.{Rows}
use Rattle.octets.specs.Bytes.{samples_of}
use Rattle.camera.specs.gather.Line.{rows_at}
use Rattle.refs.specs.Served.{chroma_inside, chroma_made}
use Rattle.camera.specs.gather.Spelt.{pair_at}
use Rattle.camera.proofs.gather.store_chroma_rows.Goals as goal

pub store_plane_rows-requires : goal.store_plane_rows-requires
store_plane_rows-requires c = ((chroma_inside (samples_of c.args.plane_cb.now) (samples_of c.args.plane_cr.now) c.args.geo c.requires.0 c.requires.1 c.requires.2).0, omega (arith, c.requires.3))

pub store_plane_rows-requires-2 : goal.store_plane_rows-requires-2
store_plane_rows-requires-2 c = ((chroma_inside (samples_of c.args.plane_cb.now) (samples_of c.args.plane_cr.now) c.args.geo c.requires.0 c.requires.1 c.requires.2).1, omega (arith, c.requires.3, c.store_plane_rows.auto))

pub returns : goal.returns
returns c = c.store_plane_rows-2.ensures ∙ ap (rows_at 262 _) c.store_plane_rows.ensures
    ∙ ap (λ (l : List Rows). pair_at l c.args.out.now)
    (chroma_made (samples_of c.args.plane_cb.now) (samples_of c.args.plane_cr.now) c.args.geo c.requires.0 c.requires.1 c.requires.2 c.neutral_of-neutral.ensures refl refl)
