-- Document 01, 'Plan, walk, replay': what a call of walk or replay refuses, in its order, and what it leaves behind. Of the progress
-- record it goes by how many blocks are done. Assumes nothing.
use Rattle.std.specs.Prelude.{ℕ, List, ℤ, length}
use Rattle.laws.specs.Choose.{served}
use Rattle.laws.specs.Chain.{units}
use Rattle.plan.specs.Answers.{Verdict}
use Rattle.plan.specs.tiling.Plan.{Plan}
use Rattle.plan.specs.tiling.PlanCheck.{blocks_verdict}
use Rattle.walk.specs.declared.checks.Still.{Still}
use Rattle.walk.specs.checks.Checks.{Tables, replay_no, walk_no, settle}
use Rattle.walk.specs.calls.Steps.{doing_of}
use Rattle.walk.specs.block.Rebuilt.{replay_unit}
use Rattle.walk.specs.block.Walked.{World, walk_unit}

-- the verdict on a call: the checks before the blocks, then the plan's, then number 11
unfoldable pub verdict_of : Still → Plan → ℕ → ℕ → Verdict
verdict_of s plan done early = settle (blocks_verdict s.frame plan) plan.count done early

-- Replay: 1, 4, 5, then 8 and 14 over every residual.
unfoldable pub replay_verdict : Still → Plan → Tables → ℕ → ℕ → List ℤ → Verdict
replay_verdict s plan t done plane residuals = verdict_of s plan done (replay_no s plan.whole t plane residuals)

-- the plane after a call of replay
unfoldable pub replay_after : Still → Plan → Tables → ℕ → ℕ → List ℤ → List ℕ → List ℕ
replay_after s plan t done grant residuals plane =
    served (replay_verdict s plan t done (length plane) residuals).no
    (units (replay_unit s plan.block residuals) done (doing_of plan.count done grant) plane) plane

-- Walk: 1, 4, 5, then 7 over every source sample.
unfoldable pub walk_verdict : Still → Plan → Tables → ℕ → List ℕ → World → Verdict
walk_verdict s plan t done source w = verdict_of s plan done (walk_no s plan.whole t source (length w.work) (length w.residuals))

-- the work plane and the residuals after a call of walk
unfoldable pub walk_after : Still → Plan → Tables → ℕ → ℕ → List ℕ → World → World
walk_after s plan t done grant source w =
    served (walk_verdict s plan t done source w).no (units (walk_unit s plan.block source) done (doing_of plan.count done grant) w) w
