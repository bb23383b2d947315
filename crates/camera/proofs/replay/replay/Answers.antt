-- `replay::replay` meets its contract. Every check precedes the first write; then the blocks, then the answer. Rests on what a call is
-- granted and on `serve`.
use Rattle.std.proofs.Common.{◌≡◌, refl, sym, ap, ◌∙◌, arith, rules, ℕ, ◌%◌, ◌-◌, length}
use Rattle.laws.specs.Chain.{units}
use Rattle.octets.specs.Bytes.{samples_of, residuals_of}
use Rattle.domain.specs.Refused.{never_0}
use Rattle.plan.specs.Answers.{Verdict}
use Rattle.plan.specs.RecordPlan.{records_of}
use Rattle.walk.specs.block.Rebuilt.{replay_unit}
use Rattle.walk.specs.calls.Steps.{doing_of, step_refused, step_granted}
use Rattle.camera.specs.replay.Verdict.{Lent}
use Rattle.camera.specs.replay.Laws.{serves, plane_kept, result_refused, plane_done, result_served, all_three}
use Rattle.camera.proofs.replay.replay.Goals as goal

pub returns-in-Err : goal.returns-in-Err
returns-in-Err c =
    let a = c.args in
    let l : Lent = record { plan = a.plan.now; residuals = a.residuals.now; plane = length a.plane.now; result = length a.res.now } in
    let d = never_0 c.in-Err.fault.why in
    let is = step_refused _ _ _ _ c.in-Err.ensures d in
    all_three a.still a.done a.plan.now a.residuals.now a.grant a.plane.now a.res.now (ap (λ (u : Verdict). u.no) is)
    (plane_kept a.still a.done l a.grant _ is d a.plane.now)
    (c.answer.ensures ∙ result_refused a.still a.done l a.grant _ is d a.res.now)

pub serve-requires : goal.serve-requires
serve-requires c =
    let a = c.args in
    let g = step_granted _ _ _ _ c.in-Ok.ensures refl in
    let s = serves a.still a.done a.plan.now a.residuals.now a.plane.now (length a.res.now) g.0 in
    (s.0, (omega (arith, g.1, s.1.0), s.1.1))

pub returns-in-Ok : goal.returns-in-Ok
returns-in-Ok c =
    let a = c.args in
    let l : Lent = record { plan = a.plan.now; residuals = a.residuals.now; plane = length a.plane.now; result = length a.res.now } in
    let g = step_granted _ _ _ _ c.in-Ok.ensures refl in
    let e = c.serve.new.plane in
    let len : length e ≡ length a.plane.now = search rules in
    let even = ap (λ (k : ℕ). k % 2) len
    ∙ (serves a.still a.done a.plan.now a.residuals.now a.plane.now (length a.res.now) g.0).1.1 in
    let many : c.in-Ok.advance.next.done - a.done ≡ doing_of (records_of a.plan.now).count a.done a.grant = omega (arith, g.1) in
    let done = c.serve.ensures
    ∙ ap (λ (n : ℕ). units (replay_unit a.still (records_of a.plan.now).block (residuals_of a.residuals.now)) a.done n
    (samples_of a.plane.now)) many in
    all_three a.still a.done a.plan.now a.residuals.now a.grant a.plane.now a.res.now (sym g.0)
    (plane_done a.still a.done l a.grant g.0 a.plane.now e even (λ i. (c.type_inv.plane i).fits) done)
    (c.answer-in-Ok.ensures ∙ result_served a.still a.done l a.grant g.0 c.in-Ok.advance.next.done a.res.now g.1)
