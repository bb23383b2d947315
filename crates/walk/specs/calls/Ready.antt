-- A call that is served, and what the loops over its blocks ask. Assumes nothing.
use Rattle.std.specs.Prelude.{◌≡◌, true, List, ℕ, ◌-◌, ◌*◌, ◌≤◌, ◌<◌, ℤ}
use Rattle.laws.specs.Chain.{units}
use Rattle.domain.specs.Facts.{Depth}
use Rattle.plan.specs.tiling.Plan.{Plan}
use Rattle.plan.specs.tiling.Verdict.{Accepted}
use Rattle.walk.specs.declared.checks.Still.{Still}
use Rattle.walk.specs.checks.Checks.{Tables, is_roomy}
use Rattle.walk.specs.block.Rebuilt.{replay_unit}
use Rattle.walk.specs.block.Walked.{World, walk_unit}

pub record Sound (s : Still) (plan : Plan) (plane residuals : ℕ) (t : Tables) : Type 0 where
  pub depth : Depth s.bits
  pub accepted : Accepted s.frame plan.block plan.count
  pub plane_len : plane ≡ s.frame.height * s.frame.width
  pub resid_len : residuals ≡ s.frame.height * s.frame.width
  pub tables : is_roomy t ≡ true

-- what the loops ask, if there is a block to do
abbrev pub ReplayReady : Still → Plan → Tables → ℕ → ℕ → ℕ → Type 0
ReplayReady s plan t plane residuals upto = 0 < upto → Sound s plan plane residuals t × (upto ≤ plan.count)

abbrev pub WalkReady : Still → Plan → Tables → ℕ → ℕ → ℕ → ℕ → Type 0
WalkReady s plan t source work residuals upto = 0 < upto → Sound s plan work residuals t × ((source ≡ work) × (upto ≤ plan.count))

-- what they leave: the blocks from `from` up to `upto` are done, and what is kept stays if there is none to do
abbrev pub ReplayBlocks : Still → Plan → List ℤ → ℕ → ℕ → List ℕ → List ℕ → Type 0 → Type 0
ReplayBlocks s plan v from upto d e kept = (e ≡ units (replay_unit s plan.block v) from (upto - from) d) × (upto ≡ 0 → kept)

abbrev pub WalkBlocks : Still → Plan → List ℕ → ℕ → ℕ → World → World → Type 0 → Type 0
WalkBlocks s plan source from upto w x kept = (x ≡ units (walk_unit s plan.block source) from (upto - from) w) × (upto ≡ 0 → kept)
