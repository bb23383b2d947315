-- How far a call goes: one that has a block to do is served. So what its loop asks holds, and it leaves what the door says. Rests on the laws
-- of calls.
use Rattle.std.specs.Prelude.{◌≡◌, refl, List, ℕ, ◌+◌, ◌-◌, ◌≤◌, ◌<◌, length, ℤ}
use Rattle.std.proofs.Math.Path.{sym, ap}
use Rattle.std.proofs.Common.{◌∙◌, arith}
use Rattle.std.proofs.Math.Decide.{ℕ_discrete}
use Rattle.laws.specs.Chain.{units}
use Rattle.laws.specs.Choose.{served, worked, unserved}
use Rattle.plan.specs.Answers.{Verdict}
use Rattle.plan.specs.tiling.Plan.{Plan}
use Rattle.walk.specs.declared.checks.Still.{Still}
use Rattle.walk.specs.checks.Checks.{Tables}
use Rattle.walk.specs.Answers.{Step}
use Rattle.walk.specs.calls.Steps.{doing_of, step_of, granted_step}
use Rattle.walk.specs.block.Rebuilt.{replay_unit}
use Rattle.walk.specs.block.Walked.{World, walk_unit}
use Rattle.walk.specs.calls.Door.{replay_verdict, replay_after, walk_verdict, walk_after}
use Rattle.walk.specs.calls.Ready.{ReplayReady, WalkReady}
use Rattle.walk.specs.calls.Laws.{replay_sound, walk_sound, refused_upto}

module _ (v : Verdict) (count done grant : ℕ) where
  -- a call goes up to no more blocks than there are
  pub upto_few : v.no ≡ 0 → done ≤ count → {t : Step} → t ≡ step_of v count done grant → t.upto ≤ count
  upto_few z few {t} e = let q : t.upto ≡ done + doing_of count done grant = ap (λ (x : Step). x.upto)
      (e ∙ sym (granted_step v count done grant z {did = doing_of count done grant} refl)) in omega (arith, q)

-- how far a call goes: one that has a block to do is served
module _ (v : Verdict) (count done grant upto : ℕ) (is : upto ≡ (step_of v count done grant).upto) where
  served_upto : v.no ≡ 0 → upto ≡ done + doing_of count done grant
  served_upto z = is ∙ sym (ap (λ (x : Step). x.upto) (granted_step v count done grant z {did = doing_of count done grant} refl))

  upto_asks : 0 < upto → (v.no ≡ 0) × (upto ≡ done + doing_of count done grant)
  upto_asks l = go (ℕ_discrete v.no 0)
    where
      go : Dec (v.no ≡ 0) → (v.no ≡ 0) × (upto ≡ done + doing_of count done grant)
      go (yes z) = (z, served_upto z)
      go (no d) = absurd (omega (arith, l, refused_upto v count done grant upto is d))

  upto_leaves : {W : Type 0} (unit : ℕ → W → W) (w e : W) → e ≡ units unit done (upto - done) w → e
      ≡ served v.no (units unit done (doing_of count done grant) w) w
  unfolding units
  upto_leaves {W} unit w e u = go (ℕ_discrete v.no 0)
    where
      go : Dec (v.no ≡ 0) → e ≡ served v.no (units unit done (doing_of count done grant) w) w
      go (yes z) = let m : upto - done ≡ doing_of count done grant = omega (arith, served_upto z) in u
          ∙ ap (λ (n : ℕ). units unit done n w) m ∙ worked v.no _ w z
      go (no d) = let m : upto - done ≡ 0 = omega (arith, refused_upto v count done grant upto is d) in u ∙ ap (λ (n : ℕ). units unit done n w) m
          ∙ unserved v.no _ w d

module _ (s : Still) (plan : Plan) (t : Tables) (done : ℕ) (v : List ℤ) (d : List ℕ) where
  module _ (grant upto : ℕ) (is : upto ≡ (step_of (replay_verdict s plan t done (length d) v) plan.count done grant).upto) where
    pub replay_asks : ReplayReady s plan t (length d) (length v) upto
    replay_asks l =
        let a = upto_asks (replay_verdict s plan t done (length d) v) plan.count done grant upto is l in
        let b = replay_sound s plan t done (length d) v a.0 in
        (b.0, omega (arith, a.1, b.1))

    pub replay_leaves : (e : List ℕ) → e ≡ units (replay_unit s plan.block v) done (upto - done) d → e
        ≡ replay_after s plan t done grant v d
    unfolding replay_after
    replay_leaves e u = upto_leaves (replay_verdict s plan t done (length d) v) plan.count done grant upto is
        (replay_unit s plan.block v) d e u

module _ (s : Still) (plan : Plan) (t : Tables) (done : ℕ) (source : List ℕ) (w : World) where
  module _ (grant upto : ℕ) (is : upto ≡ (step_of (walk_verdict s plan t done source w) plan.count done grant).upto) where
    pub walk_asks : WalkReady s plan t (length source) (length w.work) (length w.residuals) upto
    walk_asks l =
        let a = upto_asks (walk_verdict s plan t done source w) plan.count done grant upto is l in
        let b = walk_sound s plan t done source w a.0 in
        (b.0, (b.1.0, omega (arith, a.1, b.1.1)))

    pub walk_leaves : (e : World) → e ≡ units (walk_unit s plan.block source) done (upto - done) w → e
        ≡ walk_after s plan t done grant source w
    unfolding walk_after
    walk_leaves e u = upto_leaves (walk_verdict s plan t done source w) plan.count done grant upto is (walk_unit s plan.block source)
        w e u
