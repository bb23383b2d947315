-- The door: the layout, the check, then the work. Assumes nothing.
use Rattle.std.proofs.Common.{sym, ap, length, ne_eqb}
use Rattle.std.proofs.lemmas.Result.{err_from_is_err_and}
use Rattle.domain.specs.Refused.{never_0}
use Rattle.refs.specs.Answers.{Laid}
use Rattle.refs.specs.Door.{get_reference_samples}
use Rattle.refs.specs.Served.{luma_door, laid_there}
use Rattle.refs.proofs.get_reference_samples.Goals as goal

pub returns-in_err-reach : goal.returns-in_err-reach
unfolding get_reference_samples
returns-in_err-reach c =
    let t = luma_door (length c.args.plane.now) c.args.geo c.luma_layout-l.result c.luma_layout-l.ensures c.in_err-reach.ensures.0 in
    let p = err_from_is_err_and c.from_residual.result c.from_residual.ensures.1 in
    rw (p.1, p.2) (simp (← t, ne_eqb _ 0 (never_0 c.in_err-reach.field-0.0)))

pub luma_rows-requires : goal.luma_rows-requires
luma_rows-requires c =
    let l = c.luma_layout-l in
    let e = c.in_ok-reach.ensures in
    let t = luma_door (length c.args.plane.now) c.args.geo l.result l.ensures e.0 in
    (ap (λ (q : Laid). q.spot) l.ensures, laid_there l.result l.ensures e.1, sym t)

pub returns : goal.returns
unfolding get_reference_samples
returns c =
    let t = luma_door (length c.args.plane.now) c.args.geo c.luma_layout-l.result c.luma_layout-l.ensures c.in_ok-reach.ensures.0 in
    simp (c.luma_rows.ensures, ← t)
