-- `checks::check_walk` meets its contract. Numbers 1, 4 and 5, then 7.
use Rattle.std.proofs.Common.{ℕ, refl, sym, ap, ◌∙◌, length}
use Rattle.std.proofs.lemmas.Result.{err_from_is_err_and}
use Rattle.laws.specs.Choose.{if_no, both_same}
use Rattle.domain.specs.Refused.{never_0}
use Rattle.walk.specs.checks.Checks.{largest_in, opening_no, source_checks, walk_fits}
use Rattle.walk.specs.checks.Laws.{opening_stops, opening_ends}
use Rattle.walk.proofs.checks.check_walk.Goals as goal

pub returns-in_err-check_opening : goal.returns-in_err-check_opening
returns-in_err-check_opening c =
    let p = err_from_is_err_and c.from_residual.result c.from_residual.ensures.1 in
    let a = c.args in
    let fits = walk_fits a.s a.records (record { refs = a.refs; indices = a.indices; fractions = a.fractions })
    (length a.source.now) a.work a.residuals in
    let e = c.in_err-check_opening.ensures
    ∙ ap (opening_no a.s) (both_same (both_same (both_same (both_same {a = a.records} refl c.is_whole.ensures) c.is_whole-2.ensures)
    c.is_whole-3.ensures) c.is_roomy.ensures) in
    rw (p.1, p.2) (e ∙ opening_stops a.s fits (source_checks (largest_in a.s) a.source.now)
    (λ z. never_0 c.in_err-check_opening.field-0.0 (e ∙ z)))

pub returns-else-samples_ok : goal.returns-else-samples_ok
returns-else-samples_ok c =
    let a = c.args in
    let fits = walk_fits a.s a.records (record { refs = a.refs; indices = a.indices; fractions = a.fractions })
    (length a.source.now) a.work a.residuals in
    let e = c.in_ok-check_opening.ensures
    ∙ ap (opening_no a.s) (both_same (both_same (both_same (both_same {a = a.records} refl c.is_whole.ensures) c.is_whole-2.ensures)
    c.is_whole-3.ensures) c.is_roomy.ensures) in
    opening_ends a.s fits (λ (m : ℕ). source_checks m a.source.now) (sym e) c.largest_of.ensures
    (if_no _ 0 7 7 (sym c.samples_ok.ensures ∙ c.if-samples_ok.false) refl)
