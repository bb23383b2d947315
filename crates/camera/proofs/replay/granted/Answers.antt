-- `replay::granted` meets its contract: the checks before the plan's, the plan's, then 11. Rests on what a call is granted.
use Rattle.std.proofs.Common.{refl, ap, ◌∙◌}
use Rattle.plan.specs.Answers.{Verdict}
use Rattle.plan.specs.RecordPlan.{records_of}
use Rattle.walk.specs.calls.Steps.{step_of}
use Rattle.camera.specs.replay.Verdict.{Lent}
use Rattle.camera.specs.replay.VerdictLaws.{settled_bytes}
use Rattle.camera.proofs.replay.granted.Goals as goal

pub returns : goal.returns
returns c =
    let a = c.args in
    let l : Lent = record { plan = a.plan.now; residuals = a.residuals.now; plane = a.plane; result = a.res } in
    c.granted.ensures
    ∙ ap (λ (v : Verdict). step_of v (records_of a.plan.now).count a.done a.grant)
    (settled_bytes a.s a.done l _ _ _ c.check_bytes-early.ensures refl refl)
