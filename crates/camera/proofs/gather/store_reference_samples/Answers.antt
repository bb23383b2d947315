-- The layout, the check with the buffer's room, then the rows stored. Assumes nothing.
use Rattle.std.proofs.Common.{refl, ap, length}
use Rattle.std.proofs.lemmas.Result.{err_from_is_err_and}
use Rattle.domain.specs.Refused.{never_0}
use Rattle.refs.specs.Answers.{Laid}
use Rattle.refs.specs.Served.{laid_there}
use Rattle.camera.specs.Written.{done, refused}
use Rattle.camera.specs.gather.Spelt.{luma_spelt_fine}
use Rattle.camera.specs.gather.Entry.{luma_entry}
use Rattle.camera.specs.gather.Room.{own_reach, luma-entry-no, luma_entry_fine}
use Rattle.camera.proofs.gather.store_reference_samples.Goals as goal

pub store_luma_rows-requires : goal.store_luma_rows-requires
store_luma_rows-requires c = let a = c.args in
    let l = c.luma_layout-l in
    let early = c.check_luma_bytes-early.ensures in
    let e = c.in_ok-reach.ensures in
    let f = luma_entry_fine (length a.plane.now) (length a.out.now) a.geo early.0 e.0 refl in
    let there = laid_there l.result l.ensures (own_reach l.result.reach e.1 early.1) in
    (ap (λ (q : Laid). q.spot) l.ensures, there, (luma_spelt_fine a.plane.now a.geo f.1).1, f.0)

pub returns : goal.returns
unfolding luma_entry
returns c = let a = c.args in
    done _ _ _ (luma-entry-no (length a.plane.now) (length a.out.now) a.geo c.check_luma_bytes-early.ensures.0 c.in_ok-reach.ensures.0)
    refl c.store_luma_rows.ensures

pub returns-in_err-reach : goal.returns-in_err-reach
unfolding luma_entry
returns-in_err-reach c = let a = c.args in
    let p = err_from_is_err_and c.from_residual.result c.from_residual.ensures.1 in
    rw (p.1, p.2)
    (refused _ _ _ (luma-entry-no (length a.plane.now) (length a.out.now) a.geo c.check_luma_bytes-early.ensures.0 c.in_err-reach.ensures.0)
    (never_0 c.in_err-reach.field-0.0))
