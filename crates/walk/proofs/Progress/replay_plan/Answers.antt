-- `walk::Progress::replay_plan` meets its contract. Every check precedes the first write; then the blocks. Rests on the loop over the blocks
-- and on what a call comes to.
use Rattle.std.proofs.Common.{◌≡◌, refl, ap, ◌∙◌, arith, ℕ, ◌-◌, Bool, length}
use Rattle.domain.specs.Refused.{never_0}
use Rattle.plan.specs.tiling.PlanCheck.{plan_verdict}
use Rattle.laws.specs.Chain.{units}
use Rattle.walk.specs.block.Rebuilt.{replay_unit}
use Rattle.walk.specs.Lent.{tables}
use Rattle.walk.specs.checks.Checks.{replay_no, settle}
use Rattle.walk.specs.calls.Steps.{step_of}
use Rattle.walk.specs.Listed.{bare}
use Rattle.walk.proofs.Listed.{granted_is, rejected_is, replay_asks, replay_ends}
use Rattle.walk.proofs.Progress.replay_plan.Goals as goal

pub replay_blocks-requires : goal.replay_blocks-requires
replay_blocks-requires g c =
    let a = c.args in
    let plan = g.P.Blocks.plan a.plan in
    let t = tables a.refs.now a.indices.now a.fractions.now in
    let no = c.check_replay-early.ensures ∙ ap (λ (w : Bool). replay_no a.still w t (length a.plane.now) a.residuals.now) c.whole.ensures in
    let v = settle (plan_verdict a.still.frame plan) plan.count a.self.done (replay_no a.still plan.whole t (length a.plane.now) a.residuals.now) in
    let is = c.in-Ok.ensures ∙ ap (λ (k : ℕ). step_of (settle (plan_verdict a.still.frame plan) plan.count a.self.done k) plan.count a.self.done a.grant) no in
    replay_asks a.still plan t a.self a.grant a.residuals.now a.plane.now _ refl _ (granted_is v (bare plan.count) a.self a.grant _ is refl)

pub returns-in-Ok : goal.returns-in-Ok
returns-in-Ok g c =
    let a = c.args in
    let plan = g.P.Blocks.plan a.plan in
    let t = tables a.refs.now a.indices.now a.fractions.now in
    let no = c.check_replay-early.ensures ∙ ap (λ (w : Bool). replay_no a.still w t (length a.plane.now) a.residuals.now) c.whole.ensures in
    let v = settle (plan_verdict a.still.frame plan) plan.count a.self.done (replay_no a.still plan.whole t (length a.plane.now) a.residuals.now) in
    let is = c.in-Ok.ensures ∙ ap (λ (k : ℕ). step_of (settle (plan_verdict a.still.frame plan) plan.count a.self.done k) plan.count a.self.done a.grant) no in
    let e = c.replay_blocks.ensures in
    replay_ends a.still plan t a.self a.grant a.residuals.now a.plane.now _ refl _ (granted_is v (bare plan.count) a.self a.grant _ is refl)
    _ e.0 e.1

pub returns-in-Err : goal.returns-in-Err
unfolding units
returns-in-Err g c =
    let a = c.args in
    let plan = g.P.Blocks.plan a.plan in
    let t = tables a.refs.now a.indices.now a.fractions.now in
    let no = c.check_replay-early.ensures ∙ ap (λ (w : Bool). replay_no a.still w t (length a.plane.now) a.residuals.now) c.whole.ensures in
    let v = settle (plan_verdict a.still.frame plan) plan.count a.self.done (replay_no a.still plan.whole t (length a.plane.now) a.residuals.now) in
    let is = c.in-Err.ensures ∙ ap (λ (k : ℕ). step_of (settle (plan_verdict a.still.frame plan) plan.count a.self.done k) plan.count a.self.done a.grant) no in
    rw c.rejected.ensures
    (replay_ends a.still plan t a.self a.grant a.residuals.now a.plane.now _ refl _
    (rejected_is v (bare plan.count) a.self a.grant _ is (never_0 c.in-Err.fault.why)) a.plane.now
    (ap (λ (n : ℕ). units (replay_unit a.still plan.block a.residuals.now) a.self.done n a.plane.now)
    (let m : 0 ≡ 0 - a.self.done = omega arith in m))
    (λ _. (refl, (refl, refl))))
