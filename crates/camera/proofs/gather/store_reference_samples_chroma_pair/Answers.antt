-- The layout, the check with the buffer's room, then the rows stored. Assumes nothing.
use Rattle.std.proofs.Common.{refl, ap, length}
use Rattle.std.proofs.lemmas.Result.{err_from_is_err_and}
use Rattle.domain.specs.Refused.{never_0}
use Rattle.refs.specs.Answers.{Laid}
use Rattle.refs.specs.Served.{laid_there}
use Rattle.camera.specs.Written.{done, refused}
use Rattle.camera.specs.gather.Spelt.{chroma_spelt_fine}
use Rattle.camera.specs.gather.Entry.{chroma_entry}
use Rattle.camera.specs.gather.Room.{own_reach, chroma-entry-no, chroma_entry_fine}
use Rattle.camera.proofs.gather.store_reference_samples_chroma_pair.Goals as goal

pub store_chroma_rows-requires : goal.store_chroma_rows-requires
store_chroma_rows-requires c = let a = c.args in
    let l = c.chroma_layout-l in
    let early = c.check_chroma_bytes-early.ensures in
    let e = c.in_ok-reach.ensures in
    let f = chroma_entry_fine (length a.plane_cb.now) (length a.plane_cr.now) (length a.out.now) a.geo early.0 e.0 refl in
    let there = laid_there l.result l.ensures (own_reach l.result.reach e.1 early.1) in
    (ap (λ (q : Laid). q.spot) l.ensures, there, (chroma_spelt_fine a.plane_cb.now a.plane_cr.now a.geo f.1).2, f.0)

pub returns : goal.returns
unfolding chroma_entry
returns c = let a = c.args in
    let early = c.check_chroma_bytes-early.ensures.0 in
    done _ _ _ (chroma-entry-no (length a.plane_cb.now) (length a.plane_cr.now) (length a.out.now) a.geo early c.in_ok-reach.ensures.0) refl
    c.store_chroma_rows.ensures

pub returns-in_err-reach : goal.returns-in_err-reach
unfolding chroma_entry
returns-in_err-reach c = let a = c.args in
    let p = err_from_is_err_and c.from_residual.result c.from_residual.ensures.1 in
    rw (p.1, p.2)
    (refused _ _ _ (chroma-entry-no (length a.plane_cb.now) (length a.plane_cr.now) (length a.out.now) a.geo c.check_chroma_bytes-early.ensures.0 c.in_err-reach.ensures.0)
    (never_0 c.in_err-reach.field-0.0))
