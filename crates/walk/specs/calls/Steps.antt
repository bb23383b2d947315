-- Document 01, 'Plan, walk, replay': which blocks a call does, by its verdict, the blocks done before it and its grant. Assumes nothing.
use Rattle.std.specs.Prelude.{◌≡◌, ℕ, min, ◌+◌, ◌-◌}
use Rattle.std.proofs.Common.{sym, ◌∙◌}
use Rattle.std.proofs.Math.Decide.{ℕ_discrete}
use Rattle.std.proofs.Math.Path.{ap}
use Rattle.laws.specs.Choose.{served, worked, unserved}
use Rattle.plan.specs.Answers.{Verdict}
use Rattle.walk.specs.Answers.{Step}

-- what a call that is served does: the lesser of the grant and what remains
abbrev pub doing_of : ℕ → ℕ → ℕ → ℕ
doing_of count done grant = min grant (count - done)

-- so many; none where the call is refused
unfoldable pub step_of : Verdict → ℕ → ℕ → ℕ → Step
step_of v count done grant =
    let did = doing_of count done grant in
    served v.no (record { no = 0; block = 0; did = did; upto = done + did }) (record { no = v.no; block = v.block; did = 0; upto = 0 })

-- its two ways
module _ (v : Verdict) (count done grant : ℕ) where
  pub refused_step : (v.no ≡ 0 → ⊥) → record { no = v.no; block = v.block; did = 0; upto = 0 } ≡ step_of v count done grant
  unfolding step_of
  refused_step d = unserved v.no _ _ d

  pub granted_step : v.no ≡ 0 → {did : ℕ} → did ≡ doing_of count done grant → record { no = 0; block = 0; did = did; upto = done + did }
      ≡ step_of v count done grant
  unfolding step_of
  granted_step z e = ap (λ (k : ℕ). record { no = 0; block = 0; did = k; upto = done + k }) e ∙ worked v.no _ _ z

  -- and its number is its verdict's
  pub step_no : (step_of v count done grant).no ≡ v.no
  unfolding step_of
  step_no = go (ℕ_discrete v.no 0)
    where
      go : Dec (v.no ≡ 0) → (step_of v count done grant).no ≡ v.no
      go (yes z) = ap (λ (x : Step). x.no) (sym (worked v.no _ _ z)) ∙ sym z
      go (no d) = ap (λ (x : Step). x.no) (sym (unserved v.no _ _ d))

  -- so a step tells of its verdict, and one that is granted how far it goes
  pub step_refused : {x : Step} → x ≡ step_of v count done grant → (x.no ≡ 0 → ⊥) → record { no = x.no; block = x.block } ≡ v
  step_refused {x} e d =
      let n : v.no ≡ 0 → ⊥ = λ z. d (ap (λ (y : Step). y.no) e ∙ step_no ∙ z) in
      let q = e ∙ sym (refused_step n) in λ i. record { no = (q i).no; block = (q i).block }

  pub step_granted : {x : Step} → x ≡ step_of v count done grant → x.no ≡ 0 → (v.no ≡ 0) × (x.upto ≡ done + doing_of count done grant)
  unfolding step_of
  step_granted {x} e z =
      let n : v.no ≡ 0 = sym (ap (λ (y : Step). y.no) e ∙ step_no) ∙ z in
      (n, ap (λ (y : Step). y.upto) (e ∙ sym (worked v.no _ _ n)))
