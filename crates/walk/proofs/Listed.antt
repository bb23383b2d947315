-- What a call of walk or replay comes to: what its loop may ask, and what it gives and leaves. Rests on specs/Listed and on how far a call
-- goes.
use Rattle.std.specs.Prelude.{◌≡◌, List, ℕ, ◌-◌, length, ℤ}
use Rattle.std.proofs.Math.Path.{sym, ap}
use Rattle.std.proofs.Common.{◌∙◌}
use Rattle.laws.specs.Chain.{units}
use Rattle.plan.specs.Answers.{Verdict}
use Rattle.plan.specs.tiling.Plan.{Plan}
use Rattle.plan.specs.tiling.PlanCheck.{plan_verdict}
use Rattle.walk.specs.declared.checks.Still.{Still}
use Rattle.walk.specs.checks.Checks.{Tables, replay_no, walk_no, settle}
use Rattle.walk.specs.block.Rebuilt.{replay_unit}
use Rattle.walk.specs.block.Walked.{World, walk_unit}
use Rattle.walk.specs.calls.Door.{replay_verdict, replay_after, walk_verdict, walk_after}
use Rattle.walk.specs.calls.Ready.{ReplayReady, WalkReady}
use Rattle.walk.specs.calls.Laws as calls
use Rattle.walk.specs.declared.Progress.{Progress}
use Rattle.walk.specs.Answers.{Call}
use Rattle.walk.specs.Door.{stepped_by}
use Rattle.walk.specs.Answers.{Step}
use Rattle.walk.specs.calls.Steps.{step_of, step_no}
use Rattle.walk.specs.Listed.{bare, call_by, call_of, refused_call, granted_call, answer_is, upto_is, refused_so}
use Rattle.walk.proofs.CallLaws as asked

-- a call by its step: granted, or rejected with the record as given
module _ (v : Verdict) (plan : Plan) (p : Progress) (grant : ℕ) (x : Step) (is : x ≡ step_of v plan.count p.done grant) where
  number_is : x.no ≡ v.no
  number_is = ap (λ (y : Step). y.no) is ∙ step_no v plan.count p.done grant

  pub granted_is : x.no ≡ 0 → call_by x (record { done = x.upto }) ≡ call_of v plan p grant
  granted_is z = granted_call v plan p grant x is (sym number_is ∙ z)

  pub rejected_is : (x.no ≡ 0 → ⊥) → call_by x p ≡ call_of v plan p grant
  rejected_is d = refused_call v plan p grant x is (λ z. d (number_is ∙ z))

-- replay: what its loop may ask, and what the call gives and leaves
module _ (s : Still) (plan : Plan) (t : Tables) (p : Progress) (grant : ℕ) (v : List ℤ) (d : List ℕ) (found : Verdict)
    (q : found ≡ plan_verdict s.frame plan) (c : Call)
    (is : c ≡ call_of (settle found plan.count p.done (replay_no s plan.whole t (length d) v)) (bare plan.count) p grant) where
  abbrev replay_call : Verdict
  replay_call = replay_verdict s plan t p.done (length d) v

  replay_call_is : c ≡ call_of replay_call plan p grant
  unfolding call_of
  replay_call_is = is ∙ ap (λ (u : Verdict). call_of u (bare plan.count) p grant) (calls.replay_settled s plan t p.done v d found q)

  pub replay_asks : ReplayReady s plan t (length d) (length v) c.upto
  replay_asks = asked.replay_asks s plan t p.done v d grant c.upto (upto_is replay_call plan p grant c replay_call_is)

  pub replay_ends : {Q : Type 0} (e : List ℕ) → e ≡ units (replay_unit s plan.block v) p.done (c.upto - p.done) d → (c.upto ≡ 0 → Q)
      → (c.answer ≡ stepped_by replay_call plan p grant) × ((e ≡ replay_after s plan t p.done grant v d) × ((c.answer.no ≡ 0 → ⊥) → Q))
  replay_ends e u k = (
    answer_is replay_call plan p grant c replay_call_is,
    (
      asked.replay_leaves s plan t p.done v d grant c.upto (upto_is replay_call plan p grant c replay_call_is) e u,
      refused_so
          replay_call plan p grant c replay_call_is k,
    ),
  )

-- the same of the walk
module _ (s : Still) (plan : Plan) (t : Tables) (p : Progress) (grant : ℕ) (source : List ℕ) (w : World) (found : Verdict)
    (q : found ≡ plan_verdict s.frame plan) (c : Call)
    (is : c ≡ call_of (settle found plan.count p.done (walk_no s plan.whole t source (length w.work) (length w.residuals)))
    (bare plan.count) p grant) where
  abbrev walk_call : Verdict
  walk_call = walk_verdict s plan t p.done source w

  walk_call_is : c ≡ call_of walk_call plan p grant
  unfolding call_of
  walk_call_is = is ∙ ap (λ (u : Verdict). call_of u (bare plan.count) p grant) (calls.walk_settled s plan t p.done source w found q)

  pub walk_asks : WalkReady s plan t (length source) (length w.work) (length w.residuals) c.upto
  walk_asks = asked.walk_asks s plan t p.done source w grant c.upto (upto_is walk_call plan p grant c walk_call_is)

  pub walk_ends : {Q : Type 0} (e : World) → e ≡ units (walk_unit s plan.block source) p.done (c.upto - p.done) w → (c.upto ≡ 0 → Q)
      → (c.answer ≡ stepped_by walk_call plan p grant) × ((e ≡ walk_after s plan t p.done grant source w) × ((c.answer.no ≡ 0 → ⊥) → Q))
  walk_ends e u k = (
    answer_is walk_call plan p grant c walk_call_is,
    (
      asked.walk_leaves s plan t p.done source w grant c.upto (upto_is walk_call plan p grant c walk_call_is) e u,
      refused_so walk_call
          plan p grant c walk_call_is k,
    ),
  )
