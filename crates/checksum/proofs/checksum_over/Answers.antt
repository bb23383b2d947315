-- The door over samples in either form: the number, then the work. Assumes nothing.
use Rattle.std.proofs.Common.{◌≡◌, ℕ, ◌*◌, Bool, ◌&&◌, sym, ap, ◌∙◌, ap₂}
use Rattle.std.proofs.lemmas.Result.{err_from_is_err_and}
use Rattle.laws.specs.Choose.{worked, unserved}
use Rattle.domain.specs.Refused.{never_0}
use Rattle.checksum.specs.Checksum.{checksum_no_by, checksum_no, summed_by, summed}
use Rattle.checksum.specs.Served.{by_largest}
use Rattle.checksum.proofs.checksum_over.Given.{Over}
use Rattle.checksum.proofs.checksum_over.Goals as goal
use Rattle.checksum.proofs.checksum_over.Goals.{After-check_range}

number : (g : Over) (c : After-check_range g) → let a = c.args in
    checksum_no_by a.r (a.roomy && c.exactly.result) c.samples_ok-ok.result
    ≡ checksum_no a.r (a.roomy && g.S.Samples.exactly a.plane (a.r.height * a.r.width)) (g.S.Samples.list a.plane)
number g c =
    let a = c.args in
    let all = c.exactly.ensures ∙ ap (λ (n : ℕ). g.S.Samples.exactly a.plane n) c.area.ensures in
    ap (λ (b : Bool). checksum_no_by a.r (a.roomy && b) c.samples_ok-ok.result) all
    ∙ by_largest a.r (a.roomy && g.S.Samples.exactly a.plane (a.r.height * a.r.width)) (g.S.Samples.list a.plane)
    c.largest_of.ensures c.samples_ok-ok.ensures

pub returns-in_err-check_range : goal.returns-in_err-check_range
unfolding summed_by
returns-in_err-check_range g c =
    let e = c.in_err-check_range.ensures ∙ number g (goal.at.returns-in_err-check_range g c).After-check_range in
    let p = err_from_is_err_and c.from_residual.result c.from_residual.ensures.1 in
    rw (p.1, p.2) (ap₂ summed e (unserved _ _ 0 (λ z. never_0 c.in_err-check_range.field-0.0 (e ∙ z))))

pub rows_sum-requires : goal.rows_sum-requires
rows_sum-requires g c = sym (c.in_ok-check_range.ensures ∙ number g (goal.at.rows_sum-requires g c).After-check_range)

pub returns : goal.returns
unfolding summed_by
returns g c = let e = c.in_ok-check_range.ensures ∙ number g (goal.at.returns g c).After-check_range in
    ap₂ summed e (c.rows_sum.ensures ∙ worked _ _ 0 (sym e))
