-- `replay::check_bytes` meets its contract: 1, 4, 5 of bytes, then 8 and 14.
use Rattle.std.proofs.Common.{sym, ap, ◌∙◌, ℕ, Bool, ◌&&◌}
use Rattle.std.specs.Prelude.{leb}
use Rattle.std.proofs.lemmas.Result.{err_from_is_err_and}
use Rattle.domain.specs.Refused.{never_0}
use Rattle.octets.specs.Bytes.{residuals_of}
use Rattle.plan.specs.RecordPlan.{records_of}
use Rattle.walk.specs.checks.Checks.{largest_in, opening_no, residual_checks}
use Rattle.walk.specs.checks.Laws.{opening_stops, opening_ends}
use Rattle.camera.specs.replay.Verdict.{lent_bytes, bytes_fit}
use Rattle.camera.proofs.replay.check_bytes.Goals as goal

pub returns-in_err-check_opening : goal.returns-in_err-check_opening
returns-in_err-check_opening c =
    let p = err_from_is_err_and c.from_residual.result c.from_residual.ensures.1 in
    let a = c.args in
    let fits = bytes_fit a.s (lent_bytes a.plan.now a.residuals.now a.plane a.res) in
    let e = c.in_err-check_opening.ensures
    ∙ ap (λ (b : Bool). opening_no a.s (b && (records_of a.plan.now).whole && leb 8 a.res)) c.are_whole-planes.ensures in
    rw (p.1, p.2) (e ∙ opening_stops a.s fits (residual_checks (largest_in a.s) (residuals_of a.residuals.now))
    (λ z. never_0 c.in_err-check_opening.field-0.0 (e ∙ z)))

pub returns : goal.returns
returns c =
    let a = c.args in
    let fits = bytes_fit a.s (lent_bytes a.plan.now a.residuals.now a.plane a.res) in
    let e = c.in_ok-check_opening.ensures
    ∙ ap (λ (b : Bool). opening_no a.s (b && (records_of a.plan.now).whole && leb 8 a.res)) c.are_whole-planes.ensures in
    opening_ends a.s fits (λ (m : ℕ). residual_checks m (residuals_of a.residuals.now)) (sym e) c.largest_of.ensures c.check_residuals.ensures
