-- What the verdict on a call tells, that a refused call leaves all as it was, and what a call comes to: what its loop asks holds,
-- and it leaves what the door says. Rests on the laws of the plan and of a still's checks, and on how far a call goes.
use Rattle.std.specs.Prelude.{◌≡◌, refl, true, ◌&&◌, List, ℕ, ◌*◌, ◌≤◌, ◌<◌, eqb, length, ℤ}
use Rattle.std.proofs.Math.Path.{sym, ap}
use Rattle.std.proofs.Common.{◌∙◌, subst, arith}
use Rattle.std.proofs.Math.Decide.{ℕ_discrete}
use borrow.Author.Tests.{eqb-true, ne_eqb}
use Rattle.laws.specs.Choose.{if_no, passed, both_true, unserved}
use Rattle.domain.specs.Domain.{depth_ok}
use Rattle.domain.specs.Facts.{size_small, depth_of}
use Rattle.order.specs.Order.{picture_ok}
use Rattle.plan.specs.declared.tiling.Frame.{Frame}
use Rattle.plan.specs.declared.tiling.Block.{Block}
use Rattle.plan.specs.Answers.{Verdict}
use Rattle.plan.specs.tiling.Tiling.{picture_of, Placed, place}
use Rattle.plan.specs.tiling.Plan.{Plan}
use Rattle.plan.specs.tiling.Ahead.{area_small}
use Rattle.plan.specs.tiling.Cover.{area}
use Rattle.plan.specs.tiling.PlanCheck.{blocks_verdict, plan_verdict, blocks_alone}
use Rattle.plan.specs.tiling.Verdict.{Accepted, verdict_good}
use Rattle.walk.specs.declared.checks.Still.{Still}
use Rattle.walk.specs.checks.Checks.{largest_in, is_whole, Tables, is_roomy, settle}
use Rattle.walk.specs.checks.Checks.{residual_checks, replay_fits, replay_no, source_checks, walk_fits, walk_no}
use Rattle.walk.specs.checks.Laws.{good_call, settle_zero}
use Rattle.walk.specs.Answers.{Step}
use Rattle.walk.specs.calls.Steps.{step_of, refused_step}
use Rattle.walk.specs.block.Ready.{Ready, Lies}
use Rattle.walk.specs.calls.Places.{place_in, count_up}
use Rattle.walk.specs.block.Walked.{World}
use Rattle.walk.specs.calls.Door.{verdict_of, replay_verdict, replay_after, walk_verdict, walk_after}
use Rattle.walk.specs.calls.Ready.{Sound}

-- the blocks of an accepted plan have the picture's samples, and are not many
module _ (f : Frame) (plan : Plan) (h : Accepted f plan.block plan.count) where
  accepted_area : place plan.block plan.count ≡ f.height * f.width
  accepted_area = area h.picture plan.block plan.count h.plan_good

  pub accepted_small : plan.count ≤ 16777216
  accepted_small =
      let m = count_up plan.block plan.count (λ i l. (size_small (plan.block i).side (h.plan_good.placed i l).size).0) in
      omega (arith, m, accepted_area, area_small h.picture)

-- what the plan check's verdict tells of the count
pub found_small : (s : Still) (plan : Plan) (v : Verdict) → v ≡ plan_verdict s.frame plan → v.no ≡ 0 → plan.count ≤ 16777216
found_small s plan v q z = accepted_small s.frame plan (verdict_good s.frame plan (sym (ap (λ (x : Verdict). x.no) q) ∙ z)).1

-- a call that is served
module _ (s : Still) (plan : Plan) (plane residuals : ℕ) (t : Tables) (h : Sound s plan plane residuals t) where
  whole_area : place plan.block plan.count ≡ s.frame.height * s.frame.width
  whole_area = accepted_area s.frame plan h.accepted

  -- a block of it, whatever the lengths are now called
  module _ (k at : ℕ) (b : Block) (l : k < plan.count) (e : at ≡ place plan.block k) (q : b ≡ plan.block k) where
    pub lies : Lies b residuals at
    lies = record { resid_in = omega (arith, place_in plan.block k plan.count at b l e q, whole_area, h.resid_len) }

    pub ready : (plane' refs indices fractions : ℕ) → plane' ≡ plane → refs ≡ t.refs → indices ≡ t.indices → fractions ≡ t.fractions
        → Ready s b plane' (record { refs = refs; indices = indices; fractions = fractions })
    ready plane' refs indices fractions a x y z =
        record {
          depth = h.depth;
          picture = h.accepted.picture;
          placed = subst (Placed s.frame) (sym q) (h.accepted.plan_good.placed k l);
          mode = subst (λ (u : Block). u.mode ≤ 34) (sym q) (h.accepted.modes k l);
          plane_len = a ∙ h.plane_len;
          tables = rw (x, y, z) h.tables;
        }

module _ (s : Still) (plan : Plan) where
  -- number 0 of the blocks' checks says that the plan is accepted
  pub blocks_accepted : picture_ok (picture_of s.frame) ≡ true → plan.whole ≡ true → (blocks_verdict s.frame plan).no ≡ 0
      → Accepted s.frame plan.block plan.count
  blocks_accepted e w z = (verdict_good s.frame plan (ap (λ (v : Verdict). v.no) (blocks_alone s.frame plan e w) ∙ z)).1

  module _ (done early : ℕ) where
    -- number 0 says that every check holds
    pub verdict_zero : (verdict_of s plan done early).no ≡ 0 → (early ≡ 0) × (((blocks_verdict s.frame plan).no ≡ 0) × (done ≤ plan.count))
    unfolding verdict_of settle
    verdict_zero z = go (ℕ_discrete early 0)
      where
        go : Dec (early ≡ 0) → (early ≡ 0) × (((blocks_verdict s.frame plan).no ≡ 0) × (done ≤ plan.count))
        go (yes e) = (e, settle_zero (blocks_verdict s.frame plan) plan.count done early z)
        go (no d) = absurd (d (ap (λ (v : Verdict). v.no) (if_no (eqb early 0) _ _ _ (ne_eqb early 0 d) refl) ∙ z))

    -- the plan check's verdict and the checks before it make the call's
    pub settle_is : (v : Verdict) → (early ≡ 0 → v ≡ plan_verdict s.frame plan)
        → (early ≡ 0 → (picture_ok (picture_of s.frame) ≡ true) × (plan.whole ≡ true)) → settle v plan.count done early
        ≡ verdict_of s plan done early
    unfolding verdict_of settle
    settle_is v q ok = go (ℕ_discrete early 0)
      where
        blocks : Verdict
        blocks = blocks_verdict s.frame plan

        go : Dec (early ≡ 0) → settle v plan.count done early ≡ settle blocks plan.count done early
        go (no d) = sym (if_no (eqb early 0) _ _ _ (ne_eqb early 0 d) refl) ∙ if_no (eqb early 0) _ _ _ (ne_eqb early 0 d) refl
        go (yes z) = ap (λ (u : Verdict). settle u plan.count done early) (q z ∙ blocks_alone s.frame plan (ok z).0 (ok z).1)

-- a call of replay or of walk that is served
module _ (s : Still) (plan : Plan) (t : Tables) (done : ℕ) where
  pub replay_sound : (plane : ℕ) (v : List ℤ) → (replay_verdict s plan t done plane v).no ≡ 0 → Sound s plan plane (length v) t
      × (done ≤ plan.count)
  unfolding replay_verdict
  replay_sound plane v e =
      let z = verdict_zero s plan done (replay_no s plan.whole t plane v) e in
      let a = passed (depth_ok s.bits) _ 1 (omega arith) z.0 in
      let b = passed (picture_ok (picture_of s.frame)) _ 4 (omega arith) a.1 in
      let c = passed (replay_fits s plan.whole t plane (length v)) _ 5 (omega arith) b.1 in
      let x = both_true (plan.whole && is_whole s plane && is_whole s (length v)) (is_roomy t) c.0 in
      let y = both_true (plan.whole && is_whole s plane) (is_whole s (length v)) x.0 in
      let u = both_true plan.whole (is_whole s plane) y.0 in (
        record {
          depth = depth_of s.bits a.0;
          accepted = blocks_accepted s plan b.0 u.0 z.1.0;
          plane_len = eqb-true plane _ u.1;
          resid_len = eqb-true (length v) _ y.1;
          tables = x.1;
        },
        z.1.1,
      )

  pub walk_sound : (source : List ℕ) (w : World) → (walk_verdict s plan t done source w).no ≡ 0
      → Sound s plan (length w.work) (length w.residuals) t × ((length source ≡ length w.work) × (done ≤ plan.count))
  unfolding walk_verdict
  walk_sound source w e =
      let z = verdict_zero s plan done (walk_no s plan.whole t source (length w.work) (length w.residuals)) e in
      let a = passed (depth_ok s.bits) _ 1 (omega arith) z.0 in
      let b = passed (picture_ok (picture_of s.frame)) _ 4 (omega arith) a.1 in
      let c = passed (walk_fits s plan.whole t (length source) (length w.work) (length w.residuals)) _ 5 (omega arith) b.1 in
      let x = both_true (plan.whole && is_whole s (length source) && is_whole s (length w.work) && is_whole s (length w.residuals))
      (is_roomy t) c.0 in
      let y = both_true (plan.whole && is_whole s (length source) && is_whole s (length w.work)) (is_whole s (length w.residuals))
      x.0 in
      let u = both_true (plan.whole && is_whole s (length source)) (is_whole s (length w.work)) y.0 in
      let p = both_true plan.whole (is_whole s (length source)) u.0 in (
        record {
          depth = depth_of s.bits a.0;
          accepted = blocks_accepted s plan b.0 p.0 z.1.0;
          plane_len = eqb-true (length w.work) _ u.1;
          resid_len = eqb-true (length w.residuals) _ y.1;
          tables = x.1;
        },
        (eqb-true (length source) _ p.1 ∙ sym (eqb-true (length w.work) _ u.1), z.1.1),
      )

-- a refused call leaves all as it was
module _ (s : Still) (plan : Plan) (t : Tables) (done grant : ℕ) where
  pub replay_refused : (residuals : List ℤ) (plane : List ℕ) → ((replay_verdict s plan t done (length plane) residuals).no ≡ 0 → ⊥)
      → replay_after s plan t done grant residuals plane ≡ plane
  unfolding replay_after
  replay_refused residuals plane h = sym (unserved _ _ plane h)

  pub walk_refused : (source : List ℕ) (w : World) → ((walk_verdict s plan t done source w).no ≡ 0 → ⊥)
      → walk_after s plan t done grant source w ≡ w
  unfolding walk_after
  walk_refused source w h = sym (unserved _ _ w h)

-- how far a call goes
module _ (v : Verdict) (count done grant upto : ℕ) (is : upto ≡ (step_of v count done grant).upto) where
  pub refused_upto : (v.no ≡ 0 → ⊥) → upto ≡ 0
  refused_upto d = is ∙ sym (ap (λ (x : Step). x.upto) (refused_step v count done grant d))

-- replay: its verdict, what its loop may ask, and what it leaves
module _ (s : Still) (plan : Plan) (t : Tables) (done : ℕ) (v : List ℤ) (d : List ℕ) where
  pub replay_settled : (found : Verdict) → found ≡ plan_verdict s.frame plan
      → settle found plan.count done (replay_no s plan.whole t (length d) v) ≡ replay_verdict s plan t done (length d) v
  unfolding replay_verdict
  replay_settled found q = settle_is s plan done (replay_no s plan.whole t (length d) v) found (λ _. q)
      (λ z.
      let g = good_call s (replay_fits s plan.whole t (length d) (length v)) (residual_checks (largest_in s) v) z in
      (g.0, (both_true _ _ (both_true _ _ (both_true _ _ g.1).0).0).0))

-- the same of the walk
module _ (s : Still) (plan : Plan) (t : Tables) (done : ℕ) (source : List ℕ) (w : World) where
  pub walk_settled : (found : Verdict) → found ≡ plan_verdict s.frame plan
      → settle found plan.count done (walk_no s plan.whole t source (length w.work) (length w.residuals))
      ≡ walk_verdict s plan t done source w
  unfolding walk_verdict
  walk_settled found q =
      settle_is s plan done (walk_no s plan.whole t source (length w.work) (length w.residuals)) found (λ _. q)
      (λ z.
      let g = good_call s (walk_fits s plan.whole t (length source) (length w.work) (length w.residuals))
      (source_checks (largest_in s) source) z in
      (g.0, (both_true _ _ (both_true _ _ (both_true _ _ (both_true _ _ g.1).0).0).0).0))
