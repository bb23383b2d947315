-- What each entry hands over, from the definition of the door behind it. Assumes nothing.
use Rattle.std.specs.Prelude.{ℕ, ◌≡◌, List, ℤ, length}
use Rattle.plan.specs.Answers.{Verdict}
use Rattle.plan.specs.tiling.Plan.{Plan}
use Rattle.plan.specs.tiling.PlanCheck.{plan_verdict}
use Rattle.walk.specs.declared.checks.Still.{Still}
use Rattle.walk.specs.checks.Checks.{Tables}
use Rattle.walk.specs.block.Walked.{World}
use Rattle.walk.specs.calls.Door.{walk_verdict, walk_after, replay_verdict, replay_after}
use Rattle.walk.specs.declared.Progress.{Progress}
use Rattle.walk.specs.Answers.{Stepped}
use Rattle.predict.specs.Lent.{Slice, MutSlice, Untouched}
use Rattle.walk.specs.Lent.{Residuals, MutResiduals, lent_tables, world_before, world_after}
use Rattle.walk.specs.Door.{stepped_by}
use Rattle.probes.specs.declared.walk_probes.PlanAnswer.{PlanAnswer}
use Rattle.probes.specs.declared.walk_probes.StepAnswer.{StepAnswer}

-- a plan's verdict
abbrev pub plan_answer_of : Verdict → PlanAnswer
plan_answer_of v = record { no = v.no; block = v.block }

abbrev pub plan_answer : ℕ → ℕ → ℕ → Plan → PlanAnswer
plan_answer width height ctu plan = plan_answer_of (plan_verdict (record { width = width; height = height; ctu = ctu }) plan)

-- a still as bare numbers, and what a call of walk or replay gives
abbrev pub still_of : ℕ → ℕ → ℕ → ℕ → Still
still_of bits width height ctu = record { bits = bits; frame = record { width = width; height = height; ctu = ctu } }

abbrev pub progress_of : ℕ → Progress
progress_of done = record { done = done }

abbrev pub step_answer : Stepped → StepAnswer
step_answer a = record { no = a.no; block = a.block; did = a.did; done = a.next.done }

-- the doors' contracts of replay and walk, with the answer handed over
abbrev pub ProbeReplay : Still → Plan → Tables → Progress → ℕ → List ℤ → List ℕ → List ℕ → StepAnswer → Type 0 → Type 0
ProbeReplay s plan t p grant residuals before after r kept =
    (r ≡ step_answer (stepped_by (replay_verdict s plan t p.done (length before) residuals) plan p grant))
    × ((after ≡ replay_after s plan t p.done grant residuals before) × ((r.no ≡ 0 → ⊥) → kept))

abbrev pub ProbeWalk : Still → Plan → Tables → Progress → ℕ → List ℕ → World → World → StepAnswer → Type 0 → Type 0
ProbeWalk s plan t p grant source before after r kept =
    (r ≡ step_answer (stepped_by (walk_verdict s plan t p.done source before) plan p grant))
    × ((after ≡ walk_after s plan t p.done grant source before) × ((r.no ≡ 0 → ⊥) → kept))

-- the same over tables that are lent
abbrev pub ProbeReplayLent : Still → Plan → Progress → ℕ → Residuals → MutSlice → MutSlice → MutSlice → MutSlice → StepAnswer → Type 0
ProbeReplayLent s plan p grant residuals plane refs indices fractions r =
    ProbeReplay s plan (lent_tables refs indices fractions) p grant residuals.entry.now plane.entry.now plane.exit.now r
    (Untouched refs indices fractions)

abbrev pub ProbeWalkLent : Still → Plan → Progress → ℕ → Slice → MutSlice → MutResiduals → MutSlice → MutSlice → MutSlice → StepAnswer → Type 0
ProbeWalkLent s plan p grant source work residuals refs indices fractions r =
    ProbeWalk s plan (lent_tables refs indices fractions) p grant source.entry.now (world_before work residuals)
    (world_after work residuals) r
    (Untouched refs indices fractions)
