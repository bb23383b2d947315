-- The door over bytes: the layout, the check, then the work. Assumes nothing.
use Rattle.std.proofs.Common.{sym, ap}
use Rattle.refs.specs.Answers.{Laid}
use Rattle.refs.specs.Served.{laid_there}
use Rattle.camera.specs.gather.Spelt.{luma_spelt_fine}
use Rattle.camera.proofs.gather.get_reference_samples.Goals as goal

pub luma_rows-requires : goal.luma_rows-requires
luma_rows-requires c = let a = c.args in
    let l = c.luma_layout-l in
    let e = c.in_ok-reach.ensures in
    (ap (λ (q : Laid). q.spot) l.ensures, laid_there l.result l.ensures e.1, (luma_spelt_fine a.plane.now a.geo (sym e.0)).1)
