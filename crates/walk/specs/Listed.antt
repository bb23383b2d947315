-- What a call of walk or replay comes to before the first write. Rests on the laws of calls and of how far one goes.
use Rattle.std.specs.Prelude.{◌≡◌, true, ℕ}
use Rattle.std.proofs.Math.Path.{sym, ap, ap₂}
use Rattle.std.proofs.Common.{◌∙◌}
use Rattle.std.proofs.Math.Decide.{ℕ_discrete}
use Rattle.laws.specs.Choose.{worked, unserved}
use Rattle.plan.specs.Answers.{Verdict}
use Rattle.plan.specs.tiling.Plan.{Plan, no_block}
use Rattle.walk.specs.Answers.{Step}
use Rattle.walk.specs.calls.Steps.{step_of}
use Rattle.walk.specs.calls.Laws as calls
use Rattle.walk.specs.declared.Progress.{Progress}
use Rattle.walk.specs.Answers.{Stepped}
use Rattle.walk.specs.Answers.{Call}
use Rattle.walk.specs.Door.{stepped_by}

-- a plan of which only the count counts
abbrev pub bare : ℕ → Plan
bare count = record { whole = true; count = count; block = λ _. no_block }

-- what a call comes to
unfoldable pub call_of : Verdict → Plan → Progress → ℕ → Call
call_of v plan p grant = record { answer = stepped_by v plan p grant; upto = (step_of v plan.count p.done grant).upto }

-- a step's numbers with the record that the call hands back
abbrev pub call_by : Step → Progress → Call
call_by t next = record { answer = record { no = t.no; block = t.block; did = t.did; next = next }; upto = t.upto }

-- the two ways of a call
module _ (v : Verdict) (plan : Plan) (p : Progress) (grant : ℕ) where
  pub refused_call : (t : Step) → t ≡ step_of v plan.count p.done grant → (v.no ≡ 0 → ⊥) → call_by t p ≡ call_of v plan p grant
  unfolding call_of step_of
  refused_call t e d =
      ap (λ (x : Step). call_by x p) (e ∙ sym (unserved v.no _ _ d))
      ∙ ap₂ (λ (x : Stepped) (u : Step). record { answer = x; upto = u.upto }) (unserved v.no _ _ d) (unserved v.no _ _ d)

  pub granted_call : (t : Step) → t ≡ step_of v plan.count p.done grant → v.no ≡ 0 → call_by t (record { done = t.upto })
      ≡ call_of v plan p grant
  unfolding call_of step_of
  granted_call t e z =
      ap (λ (x : Step). call_by x (record { done = x.upto })) (e ∙ sym (worked v.no _ _ z))
      ∙ ap₂ (λ (x : Stepped) (u : Step). record { answer = x; upto = u.upto }) (worked v.no _ _ z) (worked v.no _ _ z)

-- its answer, and how far it goes; what holds where no block is done holds of a refused call
module _ (v : Verdict) (plan : Plan) (p : Progress) (grant : ℕ) (c : Call) (is : c ≡ call_of v plan p grant) where
  pub answer_is : c.answer ≡ stepped_by v plan p grant
  unfolding call_of
  answer_is = ap (λ (x : Call). x.answer) is

  pub upto_is : c.upto ≡ (step_of v plan.count p.done grant).upto
  unfolding call_of
  upto_is = ap (λ (x : Call). x.upto) is

  pub refused_so : {Q : Type 0} → (c.upto ≡ 0 → Q) → (c.answer.no ≡ 0 → ⊥) → Q
  refused_so {Q} k h = go (ℕ_discrete v.no 0)
    where
      go : Dec (v.no ≡ 0) → Q
      go (yes z) = absurd (h (ap (λ (x : Stepped). x.no) (answer_is ∙ sym (worked v.no _ _ z))))
      go (no d) = k (calls.refused_upto v plan.count p.done grant c.upto upto_is d)
