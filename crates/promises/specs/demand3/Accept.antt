-- A call of walk or of replay whose scratch is long enough is served exactly when its facts hold, and what it leaves has them again:
-- the lengths stay. Rests on the plan's verdict.
use Rattle.std.specs.Prelude.{◌≡◌, refl, Bool, true, false, cond, ◌&&◌, List, ℕ, ◌+◌, ◌-◌, ◌*◌, ◌≤◌, min, eqb, ℤ}
use Rattle.std.proofs.Common.{sym, ap, ◌∙◌, arith}
use Rattle.std.proofs.Math.Dec.{leb}
use Rattle.std.proofs.Math.ListN.{length}
use borrow.Author.Tests.{le-leb, eqb-true, eq-eqb}
use Rattle.laws.specs.Choose.{first_fail, passed, both_true}
use Rattle.laws.specs.Every.{every}
use Rattle.domain.specs.Domain.{depth_ok}
use Rattle.domain.specs.Facts.{Depth, depth_of, at_depth}
use Rattle.order.specs.Order.{picture_ok}
use Rattle.plan.specs.Answers.{Verdict}
use Rattle.plan.specs.tiling.Tiling.{picture_of, place}
use Rattle.plan.specs.tiling.Plan.{Plan}
use Rattle.plan.specs.tiling.PlanCheck.{blocks_verdict, blocks_alone}
use Rattle.plan.specs.tiling.Tests.{good_picture}
use Rattle.plan.specs.tiling.Verdict.{Accepted, good_verdict}
use Rattle.walk.specs.declared.checks.Still.{Still}
use Rattle.walk.specs.Answers.{Stepped}
use Rattle.walk.specs.checks.Checks.{Tables, largest_in, is_whole, is_roomy, residual_checks, settle}
use Rattle.walk.specs.block.Rebuilt.{replay_unit}
use Rattle.walk.specs.block.Walked.{World, walked, walk_unit}
use Rattle.walk.specs.calls.Door.{verdict_of, replay_verdict, replay_after, walk_verdict, walk_after}
use Rattle.walk.specs.calls.Laws.{blocks_accepted, verdict_zero}
use Rattle.walk.specs.block.RebuiltLaws.{rebuilt_length}
use Rattle.walk.specs.block.Stored.{stored_length}
use Rattle.walk.specs.lossless.Picture.{Whole}
use Rattle.walk.specs.lossless.Replay.{units_kept}
use Rattle.promises.specs.demand3.Calls.{Task, Ask, Roomy, Held, blocks, count, walk_verdict_at, walk_call, replay_verdict_at, replay_call}
use Rattle.promises.specs.demand3.Chains.{Steps}

-- the verdict, where the checks before the blocks, the plan's and the record's all hold
module _ (s : Still) (plan : Plan) where
  verdict_fine : (done early : ℕ) → early ≡ 0 → (blocks_verdict s.frame plan).no ≡ 0 → done ≤ plan.count
      → (verdict_of s plan done early).no ≡ 0
  unfolding verdict_of settle
  verdict_fine done early x y z = simp (eq-eqb early 0 x, eq-eqb (blocks_verdict s.frame plan).no 0 y, le-leb done plan.count z)

  blocks_fine : plan.whole ≡ true → Accepted s.frame plan.block plan.count → (blocks_verdict s.frame plan).no ≡ 0
  blocks_fine w a =
      ap (λ (v : Verdict). v.no) (sym (blocks_alone s.frame plan (good_picture s.frame a.picture) w)
      ∙ good_verdict s.frame plan w a)

-- what every call asks for beside its scratch: the depth, the picture with its plan of whole records, and a record of no more blocks
-- than there are
pub record Asked (j : Task) (done : ℕ) : Type 0 where
  pub depth : Depth j.still.bits
  pub records : j.plan.whole ≡ true
  pub plan_ok : Accepted j.still.frame (blocks j) (count j)
  pub few : done ≤ count j

pub record Walking (j : Task) (source : List ℕ) (x : Held World) : Type 0 where
  pub asked : Asked j x.progress.done
  pub source_whole : Whole j.still source
  pub work_whole : Whole j.still x.world.work
  pub residuals_whole : Whole j.still x.world.residuals
  pub samples : every (λ v. leb v (largest_in j.still)) source ≡ true

pub record Replaying (j : Task) (residuals : List ℤ) (x : Held (List ℕ)) : Type 0 where
  pub asked : Asked j x.progress.done
  pub plane_whole : Whole j.still x.world
  pub residuals_whole : Whole j.still residuals
  pub in_range : first_fail (residual_checks (largest_in j.still) residuals) ≡ 0

module _ (j : Task) where
  abbrev s : Still
  s = j.still

  abbrev size : ℕ
  size = s.frame.height * s.frame.width

  depth_fine : Depth s.bits → depth_ok s.bits ≡ true
  depth_fine = at_depth (λ (k : ℕ). depth_ok k ≡ true) refl refl refl s.bits

  pub walk_told : (source : List ℕ) (x : Held World) (t : Tables) → (walk_verdict_at j source x t).no ≡ 0 → Walking j source x
  unfolding walk_verdict
  walk_told source x t e =
      let v = verdict_zero s j.plan x.progress.done _ e in
      let depth = passed (depth_ok s.bits) _ 1 (omega arith) v.0 in
      let picture = passed (picture_ok (picture_of s.frame)) _ 4 (omega arith) depth.1 in
      let long = passed (j.plan.whole && is_whole s (length source) && is_whole s (length x.world.work)
      && is_whole s (length x.world.residuals) && is_roomy t) _ 5 (omega arith) picture.1 in
      let most = passed (every (λ v. leb v (largest_in s)) source) 0 7 (omega arith) long.1 in
      let c = both_true (j.plan.whole && is_whole s (length source) && is_whole s (length x.world.work)
      && is_whole s (length x.world.residuals)) (is_roomy t) long.0 in
      let b = both_true (j.plan.whole && is_whole s (length source) && is_whole s (length x.world.work))
      (is_whole s (length x.world.residuals)) c.0 in
      let a = both_true (j.plan.whole && is_whole s (length source)) (is_whole s (length x.world.work)) b.0 in
      let p = both_true j.plan.whole (is_whole s (length source)) a.0 in
      record {
        asked = record {
          depth = depth_of s.bits depth.0;
          records = p.0;
          plan_ok = blocks_accepted s j.plan picture.0 p.0
              v.1.0;
          few = v.1.1;
        };
        source_whole = eqb-true (length source) size p.1;
        work_whole = eqb-true (length x.world.work) size a.1;
        residuals_whole = eqb-true (length x.world.residuals) size b.1;
        samples = most.0;
      }

  pub walk_fine : (source : List ℕ) (x : Held World) (t : Tables) → Walking j source x → is_roomy t ≡ true → (walk_verdict_at j source x t).no
      ≡ 0
  unfolding walk_verdict
  walk_fine source x t w room =
      verdict_fine s j.plan x.progress.done _
      (simp (
        depth_fine w.asked.depth,
        good_picture s.frame w.asked.plan_ok.picture,
        w.asked.records,
        eq-eqb (length source) size w.source_whole,
        eq-eqb (length x.world.work) size w.work_whole,
        eq-eqb (length x.world.residuals) size w.residuals_whole,
        room,
        w.samples,
      ))
      (blocks_fine s j.plan w.asked.records w.asked.plan_ok) w.asked.few

  pub replay_told : (residuals : List ℤ) (x : Held (List ℕ)) (t : Tables) → (replay_verdict_at j residuals x t).no ≡ 0
      → Replaying j residuals x
  unfolding replay_verdict
  replay_told residuals x t e =
      let v = verdict_zero s j.plan x.progress.done _ e in
      let depth = passed (depth_ok s.bits) _ 1 (omega arith) v.0 in
      let picture = passed (picture_ok (picture_of s.frame)) _ 4 (omega arith) depth.1 in
      let long = passed (j.plan.whole && is_whole s (length x.world) && is_whole s (length residuals) && is_roomy t) _ 5 (omega arith)
      picture.1 in
      let b = both_true (j.plan.whole && is_whole s (length x.world) && is_whole s (length residuals)) (is_roomy t) long.0 in
      let a = both_true (j.plan.whole && is_whole s (length x.world)) (is_whole s (length residuals)) b.0 in
      let p = both_true j.plan.whole (is_whole s (length x.world)) a.0 in
      record {
        asked = record {
          depth = depth_of s.bits depth.0;
          records = p.0;
          plan_ok = blocks_accepted s j.plan picture.0 p.0
              v.1.0;
          few = v.1.1;
        };
        plane_whole = eqb-true (length x.world) size p.1;
        residuals_whole = eqb-true (length residuals) size a.1;
        in_range = long.1;
      }

  pub replay_fine : (residuals : List ℤ) (x : Held (List ℕ)) (t : Tables) → Replaying j residuals x → is_roomy t ≡ true
      → (replay_verdict_at j residuals x t).no ≡ 0
  unfolding replay_verdict
  replay_fine residuals x t w room =
      verdict_fine s j.plan x.progress.done _
      (simp (
        depth_fine w.asked.depth,
        good_picture s.frame w.asked.plan_ok.picture,
        w.asked.records,
        eq-eqb (length x.world) size w.plane_whole,
        eq-eqb (length residuals) size w.residuals_whole,
        room,
        w.in_range,
      ))
      (blocks_fine s j.plan w.asked.records w.asked.plan_ok) w.asked.few

  -- one call does blocks, keeps every length, and its successor is served
  joined : {W : Type 0} (b : Bool) (y z : Stepped) (w v : W)
      → ◌≡◌ {A = Held W} (record { progress = (cond b y z).next; world = cond b w v })
      (cond b (record { progress = y.next; world = w }) (record { progress = z.next; world = v }))
  joined true y z w v = refl
  joined false y z w v = refl

  further : {done : ℕ} → Asked j done → (grant : ℕ) → Asked j (done + min grant (count j - done))
  further a grant = record { depth = a.depth; records = a.records; plan_ok = a.plan_ok; few = omega arith }

  pub walk_steps : (source : List ℕ)
      → Steps (λ (a : Ask). a.grant) Roomy (Walking j source) (λ x a. (walk_verdict_at j source x a.tables).no)
      (walk_unit s (blocks j) source) (count j) (walk_call j source)
  unfolding walk_after walked
  walk_steps source = record {
    call_is = λ x a. joined (eqb (walk_verdict_at j source x a.tables).no 0) _ _ _ _;
    fine = λ x a. walk_fine source x a.tables;
    told = λ x a. walk_told source x a.tables;
    again = λ x grant w.
        record {
          asked = further w.asked grant;
          source_whole = w.source_whole;
          work_whole = units_kept (walk_unit s (blocks j) source) (λ (u : World). length u.work) _ _ x.world
              (λ k u l m. rebuilt_length s (blocks j k) (place (blocks j) k) _ u.work) ∙ w.work_whole;
          residuals_whole = units_kept (walk_unit s (blocks j) source) (λ (u : World). length u.residuals) _ _ x.world
              (λ k u l m. stored_length s source (blocks j k) (place (blocks j) k) u.work u.residuals) ∙ w.residuals_whole;
          samples = w.samples;
        };
  }

  pub replay_steps : (residuals : List ℤ)
      → Steps (λ (a : Ask). a.grant) Roomy (Replaying j residuals) (λ x a. (replay_verdict_at j residuals x a.tables).no)
      (replay_unit s (blocks j) residuals) (count j) (replay_call j residuals)
  unfolding replay_after
  replay_steps residuals = record {
    call_is = λ x a. joined (eqb (replay_verdict_at j residuals x a.tables).no 0) _ _ _ _;
    fine = λ x a. replay_fine residuals x a.tables;
    told = λ x a. replay_told residuals x a.tables;
    again = λ x grant w.
        record {
          asked = further w.asked grant;
          plane_whole = units_kept (replay_unit s (blocks j) residuals) length _ _ x.world
              (λ k u l m. rebuilt_length s (blocks j k) (place (blocks j) k) residuals u) ∙ w.plane_whole;
          residuals_whole = w.residuals_whole;
          in_range = w.in_range;
        };
  }
