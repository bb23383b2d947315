-- `plan::check` meets its contract: each turn is a step of the check. Rests on the laws of a standing check.
use Rattle.std.proofs.Common.{sym, ◌∙◌, ap, subst, arith, ℕ, Bool, ◌≡◌}
use Rattle.std.proofs.lemmas.Result.{err_from_is_err_and}
use Rattle.domain.specs.Refusal.{number}
use Rattle.domain.specs.Refused.{never_0}
use Rattle.plan.specs.Answers.{Verdict, Checking}
use Rattle.plan.specs.verdict.Standing.{check_start, check_step, check_end, Standing, standing_none, standing_more, standing_end}
use Rattle.plan.proofs.check.Goals as goal

abbrev refused : ℕ → Verdict
refused k = record { no = k; block = 0 }

abbrev none_covered : ℕ → Checking
none_covered k = record { no = k; block = 0; covered = 0 }

pub returns-in_err-check_start : goal.returns-in_err-check_start
unfolding check_start
returns-in_err-check_start g c =
    let p = err_from_is_err_and c.from_residual.result c.from_residual.ensures.1 in
    let plan = g.P.Blocks.plan c.args.plan in
    let q : number c.in_err-check_start.field-0.0 ≡ (check_start c.args.frame plan.whole).no =
    c.in_err-check_start.ensures ∙ ap (λ (w : Bool). (check_start c.args.frame w).no) c.whole.ensures in
    rw (p.1, p.2) (ap refused q ∙ (standing_none c.args.frame plan).told (λ e. never_0 c.in_err-check_start.field-0.0 (q ∙ e)))

pub loop-i-init : goal.loop-i-init
unfolding check_start
loop-i-init g c =
    let plan = g.P.Blocks.plan c.args.plan in
    let q : 0 ≡ (check_start c.args.frame plan.whole).no =
    c.in_ok-check_start.ensures ∙ ap (λ (w : Bool). (check_start c.args.frame w).no) c.whole.ensures in
    subst (Standing c.args.frame plan 0) (sym (ap none_covered q)) (standing_none c.args.frame plan)

pub returns-in_err-covered : goal.returns-in_err-covered
unfolding check_step
returns-in_err-covered g c =
    let p = err_from_is_err_and c.from_residual-in_err-covered.result c.from_residual-in_err-covered.ensures.1 in
    let s = standing_more c.loop-i.invariant (omega (arith, c.loop-i-test.true, c.count-i-end.ensures)) c.block.result c.block.ensures in
    rw (p.1, p.2) ((subst (Standing _ _ _) (sym c.in_err-covered.ensures) s).told (never_0 c.in_err-covered.field-0.0.why))

pub loop-i-preserved : goal.loop-i-preserved
unfolding check_step
loop-i-preserved g c =
    let s = standing_more c.loop-i.invariant (omega (arith, c.loop-i-test.true, c.count-i-end.ensures)) c.block.result c.block.ensures in
    subst (Standing _ _ _) (sym c.in_ok-covered.ensures) s

pub returns-in_err-check_end : goal.returns-in_err-check_end
unfolding check_end
returns-in_err-check_end g c =
    let p = err_from_is_err_and c.from_residual-in_err-check_end.result c.from_residual-in_err-check_end.ensures.1 in
    rw (p.1, p.2) (ap refused c.in_err-check_end.ensures
    ∙ standing_end c.loop-i.invariant (omega (arith, c.loop-i-test.false, c.count-i-end.ensures)))

pub returns : goal.returns
unfolding check_end
returns g c = ap refused c.in_ok-check_end.ensures
    ∙ standing_end c.loop-i.invariant (omega (arith, c.loop-i-test.false, c.count-i-end.ensures))
