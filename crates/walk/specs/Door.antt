-- Document 01, 'Plan, walk, replay': what a call of walk or replay gives, by its verdict, and what it leaves. Assumes nothing.
use Rattle.std.specs.Prelude.{◌≡◌, List, ℕ, ◌+◌, ℤ, length}
use Rattle.laws.specs.Choose.{served}
use Rattle.predict.specs.Lent.{Slice, MutSlice, Untouched}
use Rattle.plan.specs.Answers.{Verdict}
use Rattle.plan.specs.tiling.Plan.{Plan}
use Rattle.walk.specs.declared.checks.Still.{Still}
use Rattle.walk.specs.checks.Checks.{Tables}
use Rattle.walk.specs.calls.Steps.{doing_of}
use Rattle.walk.specs.block.Walked.{World}
use Rattle.walk.specs.Lent.{Residuals, MutResiduals, lent_tables, world_before, world_after}
use Rattle.walk.specs.calls.Door.{replay_verdict, replay_after, walk_verdict, walk_after}
use Rattle.walk.specs.declared.Progress.{Progress}
use Rattle.walk.specs.Answers.{Stepped}

-- the successor of the record, or the record as given
abbrev pub stepped_by : Verdict → Plan → Progress → ℕ → Stepped
stepped_by v plan p grant =
    let did = doing_of plan.count p.done grant in
    served v.no (record { no = 0; block = 0; did = did; next = record { done = p.done + did } })
    (record { no = v.no; block = v.block; did = 0; next = p })

-- a call of replay from the plane d: its answer r, the plane e after it, and that a refusal keeps the scratch
abbrev pub ReplayGives : Still → Plan → Tables → Progress → ℕ → List ℤ → List ℕ → List ℕ → Stepped → Type 0 → Type 0
ReplayGives s plan t p grant v d e r kept =
    (r ≡ stepped_by (replay_verdict s plan t p.done (length d) v) plan p grant)
    × ((e ≡ replay_after s plan t p.done grant v d) × ((r.no ≡ 0 → ⊥) → kept))

-- a call of walk from the work plane and the residuals w: its answer r, both after it, and the same of a refusal
abbrev pub WalkGives : Still → Plan → Tables → Progress → ℕ → List ℕ → World → World → Stepped → Type 0 → Type 0
WalkGives s plan t p grant source w x r kept =
    (r ≡ stepped_by (walk_verdict s plan t p.done source w) plan p grant)
    × ((x ≡ walk_after s plan t p.done grant source w) × ((r.no ≡ 0 → ⊥) → kept))

-- the same over a plane, planes and tables that are lent
abbrev pub ReplayLent : Still → Plan → Progress → ℕ → Residuals → MutSlice → MutSlice → MutSlice → MutSlice → Stepped → Type 0
ReplayLent s plan p grant residuals plane refs indices fractions r =
    ReplayGives s plan (lent_tables refs indices fractions) p grant residuals.entry.now plane.entry.now plane.exit.now r
    (Untouched refs indices fractions)

abbrev pub WalkLent : Still → Plan → Progress → ℕ → Slice → MutSlice → MutResiduals → MutSlice → MutSlice → MutSlice → Stepped → Type 0
WalkLent s plan p grant source work residuals refs indices fractions r =
    WalkGives s plan (lent_tables refs indices fractions) p grant source.entry.now (world_before work residuals)
    (world_after work residuals) r
    (Untouched refs indices fractions)
