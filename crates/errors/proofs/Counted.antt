-- What the verdict on a pair tells of its count: one that is not refused can be begun, and gives what all its blocks add; a refused one
-- gives the report as it was. Rests on the laws of the verdict.
use Rattle.std.specs.Prelude.{◌≡◌, Bool, List, ℕ}
use Rattle.std.proofs.Common.{sym, ap, ◌∙◌, ne_eqb}
use Rattle.domain.specs.Refused.{never_0}
use Rattle.plan.specs.Answers.{Verdict}
use Rattle.plan.specs.tiling.Plan.{Plan}
use Rattle.plan.specs.tiling.Tests.{picture_good}
use Rattle.errors.specs.declared.Report.{Report}
use Rattle.errors.specs.Errors.{Tally, pair_tally, pair_verdict, counted_by}
use Rattle.errors.specs.Served.{Countable, countable, opened}
use Rattle.errors.specs.Blocks.{with_first}

-- what each check tells the next
pub ruleset checked = (never_0, opened, picture_good)

pub begun : (r : Report) (fit : Bool) (a b : List ℕ) (plan : Plan) → record { no = 0; block = 0 } ≡ pair_verdict r fit a b plan
    → Countable r fit a b plan
begun r fit a b plan e = countable r fit a b plan (sym (ap (λ (v : Verdict). v.no) e))

pub ended : (r : Report) (a b : List ℕ) (plan : Plan) (v : Verdict) (next : Report) (k : ℕ) → record { no = 0; block = 0 } ≡ v
    → next ≡ with_first r a b plan k → k ≡ plan.count
    → record { no = 0; block = 0; next = next } ≡ counted_by r v (pair_tally r.frame a b plan)
unfolding counted_by
ended r a b plan v next k e q n = simp (← e, q ∙ ap (with_first r a b plan) n)

pub handed_back : (r : Report) (v : Verdict) (t : Tally) → (v.no ≡ 0 → ⊥) → counted_by r v t
    ≡ record { no = v.no; block = v.block; next = r }
unfolding counted_by
handed_back r v t d = simp (ne_eqb _ 0 d)
