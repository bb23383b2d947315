-- The door: the layout, the check, then the work. Assumes nothing.
use Rattle.std.proofs.Common.{sym, ap, length, ne_eqb}
use Rattle.std.proofs.lemmas.Result.{err_from_is_err_and}
use Rattle.domain.specs.Refused.{never_0}
use Rattle.refs.specs.Answers.{Laid}
use Rattle.refs.specs.Door.{get_reference_samples_chroma_pair}
use Rattle.refs.specs.Served.{chroma_door, laid_there}
use Rattle.refs.proofs.get_reference_samples_chroma_pair.Goals as goal

pub returns-in_err-reach : goal.returns-in_err-reach
unfolding get_reference_samples_chroma_pair
returns-in_err-reach c = let a = c.args in
    let l = c.chroma_layout-l in
    let t = chroma_door (length a.plane_cb.now) (length a.plane_cr.now) a.geo l.result l.ensures c.in_err-reach.ensures.0 in
    let p = err_from_is_err_and c.from_residual.result c.from_residual.ensures.1 in
    rw (p.1, p.2) (simp (← t, ne_eqb _ 0 (never_0 c.in_err-reach.field-0.0)))

pub chroma_pair-requires : goal.chroma_pair-requires
chroma_pair-requires c = let a = c.args in
    let l = c.chroma_layout-l in
    let e = c.in_ok-reach.ensures in
    let t = chroma_door (length a.plane_cb.now) (length a.plane_cr.now) a.geo l.result l.ensures e.0 in
    (ap (λ (q : Laid). q.spot) l.ensures, laid_there l.result l.ensures e.1, sym t)

pub returns : goal.returns
unfolding get_reference_samples_chroma_pair
returns c = let a = c.args in
    let l = c.chroma_layout-l in
    let t = chroma_door (length a.plane_cb.now) (length a.plane_cr.now) a.geo l.result l.ensures c.in_ok-reach.ensures.0 in
    simp (c.chroma_pair.ensures, ← t)
