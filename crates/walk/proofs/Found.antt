-- What the answer of the plan check tells a call: a refusal has a number, and a plan that is accepted has few blocks. Rests on the laws of
-- the plan's verdict.
use Rattle.std.specs.Prelude.{◌≡◌, ◌≤◌}
use Rattle.std.proofs.Common.{refl}
use Rattle.domain.specs.Refused.{never_0}
use Rattle.plan.specs.declared.tiling.Frame.{Frame}
use Rattle.plan.specs.tiling.Plan.{Plan}
use Rattle.plan.specs.tiling.PlanCheck.{plan_verdict}
use Rattle.walk.specs.calls.Laws.{found_small}

pub few_blocks : (frame : Frame) (plan : Plan) → record { no = 0; block = 0 } ≡ plan_verdict frame plan → plan.count ≤ 16777216
few_blocks frame plan e = found_small (record { bits = 8; frame = frame }) plan _ e refl

pub ruleset told = (never_0, few_blocks)
