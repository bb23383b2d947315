-- Demand 3 holds. Rests on the walk and replay of a plan (walk's Picture and Replay), on chains of calls, and on the residuals' range.
use Rattle.std.specs.Prelude.{◌≡◌, refl, true, List, ℕ, ◌+◌, ◌-◌, ◌^◌, ◌≤◌, ◌<◌, min, ℤ, pos, nat_abs, length, get_or}
use Rattle.std.proofs.Common.{sym, ap, ◌∙◌, subst, arith, le-leb, leb-true}
use contract.Monad.{fact_mono}
use Rattle.laws.specs.Chain.{units}
use Rattle.laws.specs.Choose.{first_fail, passed}
use Rattle.laws.specs.Every.{every, every_of, every-at, most_at}
use Rattle.domain.specs.Facts.{Depth, at_depth, size_small}
use Rattle.plan.specs.tiling.Tiling.{Covered, place}
use Rattle.plan.specs.tiling.Cover.{area}
use Rattle.plan.specs.tiling.Verdict.{Accepted}
use Rattle.walk.specs.Answers.{stepped_of}
use Rattle.walk.specs.declared.checks.Still.{Still}
use Rattle.samples.specs.deltas.Deltas.{residual_ok, residual_within}
use Rattle.walk.specs.checks.Checks.{Tables, largest_in, residual_checks}
use Rattle.walk.specs.checks.Laws.{all_within}
use Rattle.walk.specs.block.Predicted.{sample_at, predicted_at}
use Rattle.walk.specs.block.Rebuilt.{replay_unit}
use Rattle.walk.specs.block.Walked.{World, walk_unit}
use Rattle.walk.specs.block.RebuiltLaws.{rebuilt_length}
use Rattle.walk.specs.lossless.Picture.{Sample, OfS, Whole, look, predict, residual, less, local, rebuild_out, replays, sourced}
use Rattle.walk.proofs.Walks.{walks_plan}
use Rattle.walk.specs.lossless.Replay.{units_kept, replay_same, replay_source, walks}
use Rattle.promises.specs.demand3.Calls.{Task, Ask, ask, Roomy, granted, Each, Held, Served, ReplaysServed, blocks, count}
use Rattle.promises.specs.demand3.Calls.{residual_at, fresh, calls, walk_call, replay_verdict_at, replay_call}
use Rattle.promises.specs.demand3.Chains.{after, all_done, all_served, made_calls, split, from_fresh}
use Rattle.promises.specs.demand3.Accept.{Walking, Replaying, walk_told, replay_told, walk_steps, replay_steps}
use Rattle.promises.specs.demand3.Range.{predicted_most}
use Rattle.promises.specs.demand3.Gives.{walk_done, replay_done, walk_gave, replay_gave}
use Rattle.promises.specs.demand3.Forms.{numbers_listed}
use Rattle.promises.specs.demand3.Spots.{at, by_samples, less_small, in_block, part_of, spot}
use Rattle.promises.specs.demand3.Spots.{covered_in, spot_of, spot_less, spot_predict}
use Rattle.promises.specs.demand3.Demand3.{LosslessWalk, Replayed, WalkDoes, ReplayDoes, Demand3}

-- a walk of the whole picture
module _ (j : Task) (source : List ℕ) (w : World) (facts : Walking j source (fresh w)) where
  abbrev s : Still
  s = j.still

  ok : Accepted s.frame (blocks j) (count j)
  ok = facts.asked.plan_ok

  depth : Depth s.bits
  depth = facts.asked.depth

  samples : (i : ℕ) → get_or source i 0 ≤ largest_in s
  samples = most_at (largest_in s) source facts.samples

  abbrev up_to : ℕ → World
  up_to k = units (walk_unit s (blocks j) source) 0 k w

  abbrev all : World
  all = up_to (count j)

  -- after k blocks the residuals keep their length, the work plane holds the source, and the residuals are the source less its prediction
  module _ (k : ℕ) (few : k ≤ count j) where
    so_far : Whole s (up_to k).residuals
        × ((i : ℕ) (t : Sample s) → i < k → OfS s (blocks j) i t → look s (up_to k).work t ≡ look s source t)
        × ((i : ℕ) (t : Sample s) → i < k → OfS s (blocks j) i t → residual s (blocks j) (up_to k).residuals i t
        ≡ less (look s source t) (predict s (blocks j) i source t))
    so_far =
        let d = walks (replays s (blocks j) (count j) ok depth)
        (sourced s (blocks j) (count j) ok depth source facts.source_whole (λ t. samples _))
        (walks_plan s (blocks j) (count j) ok depth source)
        k w few facts.work_whole facts.residuals_whole in
        (d.resid_ok, d.holds, d.lossless)

    module _ (i r c : ℕ) (l : i < k) (hr : r < (blocks j i).side) (hc : c < (blocks j i).side) where
      abbrev original : ℕ
      original = sample_at s source ((blocks j i).row + r) ((blocks j i).col + c)

      residual_to : residual_at j (up_to k).residuals i r c ≡ less original (predicted_at s (blocks j i) source r c)
      residual_to =
          let m : i < count j = omega arith in
          spot_less s (blocks j) (count j) ok i r c m hr hc _ (up_to k).residuals source
          (so_far.2 i (spot s (blocks j) (count j) ok i r c m hr hc) l (spot_of s (blocks j) (count j) ok i r c m hr hc))

      -- a difference of two samples of the depth
      small_to : nat_abs (residual_at j (up_to k).residuals i r c) ≤ largest_in s
      small_to =
          let m : i < count j = omega arith in
          let a = predicted_most s (blocks j i) source depth (ok.plan_good.placed i m).size (ok.modes i m) samples r c hr hc in
          subst (λ (z : ℤ). nat_abs z ≤ largest_in s) (sym residual_to) (less_small (largest_in s) original _ (samples _) a)

  told : Whole s all.residuals
      × ((i : ℕ) (t : Sample s) → i < count j → OfS s (blocks j) i t → look s all.work t ≡ look s source t)
      × ((i : ℕ) (t : Sample s) → i < count j → OfS s (blocks j) i t → residual s (blocks j) all.residuals i t
      ≡ less (look s source t) (predict s (blocks j) i source t))
  told = so_far (count j) (omega arith)

  -- whatever is granted
  small_written : (asks : List Ask) → Each Roomy asks → (i r c : ℕ) → i < min (granted asks) (count j) → r < (blocks j i).side
      → c < (blocks j i).side → nat_abs (residual_at j (calls (walk_call j source) (fresh w) asks).world.residuals i r c) ≤ largest_in s
  small_written asks room i r c l hr hc =
      subst (λ (x : Held World). nat_abs (residual_at j x.world.residuals i r c) ≤ largest_in s)
      (sym (from_fresh (walk_steps j source) w asks facts room))
      (small_to (min (granted asks) (count j)) (omega arith) i r c l hr hc)

  -- grants that reach the count walk it all
  calls_are : (asks : List Ask) → Each Roomy asks → count j ≤ granted asks → calls (walk_call j source) (fresh w) asks
      ≡ after (walk_unit s (blocks j) source) (count j) w
  calls_are asks room h =
      let e : min (granted asks) (count j) ≡ count j = omega arith in
      from_fresh (walk_steps j source) w asks facts room ∙ ap (λ (k : ℕ). after (walk_unit s (blocks j) source) k w) e

  walk_all : (asks : List Ask) → Each Roomy asks → count j ≤ granted asks → LosslessWalk j source (calls (walk_call j source) (fresh w) asks)
  walk_all asks room h =
      subst (LosslessWalk j source) (sym (calls_are asks room h))
      (record {
        all_done = refl;
        long = told.0;
        residuals = residual_to (count j) (omega arith);
        reconstructed = λ r c i. let v = ok.plan_good.all r c i in told.1 v.0 (at r c i) v.1 v.2;
      })

  alone : (other : List ℕ) → Whole s other → (k : ℕ) → k < count j
      → ((r c : ℕ) → Covered (blocks j) k r c → sample_at s source r c ≡ sample_at s other r c)
      → (r c : ℕ) → r < (blocks j k).side → c < (blocks j k).side → predicted_at s (blocks j k) source r c
      ≡ predicted_at s (blocks j k) other r c
  alone other o k l same r c hr hc =
      sym (spot_predict s (blocks j) (count j) ok k r c l hr hc source)
      ∙ local s (blocks j) (count j) ok depth k source other l facts.source_whole o (λ i t m q. same t.row t.col (i, m, q))
      (spot s (blocks j) (count j) ok k r c l hr hc) (spot_of s (blocks j) (count j) ok k r c l hr hc)
      ∙ spot_predict s (blocks j) (count j) ok k r c l hr hc other

  -- every residual belongs to a block
  in_range : first_fail (residual_checks (largest_in s) all.residuals) ≡ 0
  in_range = sym (all_within (largest_in s) small all.residuals (every_of (residual_within (largest_in s)) all.residuals (pos 0) go))
    where
      small : largest_in s ≤ 65535
      small = at_depth (λ (k : ℕ). 2 ^ k - 1 ≤ 65535) (omega arith) (omega arith) (omega arith) s.bits depth

      go : (n : ℕ) → n < length all.residuals → residual_within (largest_in s) (get_or all.residuals n (pos 0)) ≡ true
      go n l =
          let p = part_of s (blocks j) (count j) n (omega (arith, told.0, area ok.picture (blocks j) (count j) ok.plan_good)) in
          let some = size_small (blocks j p.0).side (ok.plan_good.placed p.0 p.1).size in
          let q = in_block (blocks j p.0).side (place (blocks j) p.0) n (omega arith) p.2 p.3 in
          le-leb _ (largest_in s) (subst (λ (k : ℕ). nat_abs (get_or all.residuals k (pos 0)) ≤ largest_in s) (sym q.4)
          (small_to (count j) (omega arith) p.0 q.0 q.1 p.1 q.2 q.3))

  module _ (plane : List ℕ) (long : Whole s plane) (again : List Ask) (room : Each Roomy again) where
    ready : Replaying j all.residuals (fresh plane)
    ready = record { asked = facts.asked; plane_whole = long; residuals_whole = told.0; in_range = in_range }

    out : calls (replay_call j all.residuals) (fresh plane) again
        ≡ after (replay_unit s (blocks j) all.residuals) (min (granted again) (count j)) plane
    out = from_fresh (replay_steps j all.residuals) plane again ready room

    replay_back : Replayed j source plane (min (granted again) (count j)) (calls (replay_call j all.residuals) (fresh plane) again)
    replay_back =
        let k = min (granted again) (count j) in
        let most : k ≤ count j = omega arith in
        subst (Replayed j source plane k) (sym out)
        (record {
          done = refl;
          source_back = λ r c v.
              replay_source (replays s (blocks j) (count j) ok depth)
              (sourced s (blocks j) (count j) ok depth source facts.source_whole (λ t. samples _))
              all.residuals k plane most long (λ i t m. told.2 i t (omega arith)) v.0
              (at r c (covered_in s (blocks j) (count j) ok k r c most v)) v.1 v.2;
          others_kept = λ r c h n.
              units_kept (replay_unit s (blocks j) all.residuals) (λ (u : List ℕ). sample_at s u r c) 0 k plane
              (λ i u a b. rebuild_out s (blocks j) (count j) ok depth i all.residuals u (omega arith) (at r c h)
              (λ o. n (i, omega arith, o)));
        })

    replay_same_all : count j ≤ granted again → (calls (replay_call j all.residuals) (fresh plane) again).world ≡ source
    replay_same_all h =
        let k = min (granted again) (count j) in
        let e : count j ≡ k = omega arith in
        let some = ok.picture.wide.low in
        let kept = units_kept (replay_unit s (blocks j) all.residuals) length 0 k plane
        (λ i u a b. rebuilt_length s (blocks j i) (place (blocks j) i) all.residuals u) in
        by_samples s _ source (omega arith) (ap (λ (x : Held (List ℕ)). length x.world) out ∙ kept ∙ long) facts.source_whole
        (λ r c i. replay_back.source_back r c (subst (λ (n : ℕ). Covered (blocks j) n r c) e (ok.plan_good.all r c i)))

    replay_all : (asks : List Ask) → Each Roomy asks → count j ≤ granted asks
        → let residuals = (calls (walk_call j source) (fresh w) asks).world.residuals in
        ReplaysServed j residuals (fresh plane) again × Replayed j source plane (min (granted again) (count j))
        (calls (replay_call j residuals) (fresh plane) again)
    replay_all asks long_enough h =
        subst (λ (x : Held World). ReplaysServed j x.world.residuals (fresh plane) again
        × Replayed j source plane (min (granted again) (count j)) (calls (replay_call j x.world.residuals) (fresh plane) again))
        (sym (calls_are asks long_enough h)) (all_served (replay_steps j all.residuals) (fresh plane) again ready room, replay_back)

-- residuals that replay takes
small_taken : (j : Task) (residuals : List ℤ) (x : Held (List ℕ)) → Replaying j residuals x
    → (i : ℕ) → nat_abs (get_or residuals i (pos 0)) ≤ largest_in j.still
small_taken j residuals x f i =
    let m = largest_in j.still in
    let wide = passed (every residual_ok residuals) _ 8 (omega arith) f.in_range in
    let e = (passed (every (residual_within m) residuals) _ 14 (omega arith) wide.1).0 in
    leb-true (nat_abs (get_or residuals i (pos 0))) m (every-at (residual_within m) (pos 0) (le-leb 0 m (omega arith)) residuals e i)

-- residuals that are not the walk's
replay_altered : (j : Task) (residuals : List ℤ) (a b : List ℕ) (asks others : List Ask) (t : Tables)
    → Served (replay_verdict_at j residuals (fresh a) t) → Whole j.still b
    → Each Roomy asks → Each Roomy others → min (granted asks) (count j) ≡ min (granted others) (count j) → (r c : ℕ)
    → Covered (blocks j) (min (granted asks) (count j)) r c
    → sample_at j.still (calls (replay_call j residuals) (fresh a) asks).world r c
    ≡ sample_at j.still (calls (replay_call j residuals) (fresh b) others).world r c
replay_altered j v a b asks others t served long room roomy e r c cov =
    let s = j.still in
    let f = replay_told j v (fresh a) t served in
    let ok = f.asked.plan_ok in
    let k = min (granted asks) (count j) in
    let most : k ≤ count j = omega arith in
    let too : Replaying j v (fresh b) = record {
      asked = f.asked;
      plane_whole = long;
      residuals_whole = f.residuals_whole;
      in_range =
          f.in_range;
    } in
    ap (λ (x : Held (List ℕ)). sample_at s x.world r c) (from_fresh (replay_steps j v) a asks f room)
    ∙ replay_same (replays s (blocks j) (count j) ok f.asked.depth) v k a b most f.plane_whole long cov.0
    (at r c (covered_in s (blocks j) (count j) ok k r c most cov)) cov.1 cov.2
    ∙ ap (λ (n : ℕ). sample_at s (units (replay_unit s (blocks j) v) 0 n b) r c) e
    ∙ sym (ap (λ (x : Held (List ℕ)). sample_at s x.world r c) (from_fresh (replay_steps j v) b others too roomy))

pub demand_3 : Demand3
demand_3 = record {
  walk = λ j source w asks h.
      let f = walk_told j source (fresh w) h.tables h.served in
      (all_served (walk_steps j source) (fresh w) asks f h.room, walk_all j source w f asks h.room h.enough);
  earlier_alone = λ j source other w t e. alone j source w (walk_told j source (fresh w) t e) other;
  replay = λ j source w asks h plane long again room. replay_all j source w (walk_told j source (fresh w) h.tables h.served) plane
      long again room asks h.room h.enough;
  same = λ j source w asks h plane long again room k.
      let f = walk_told j source (fresh w) h.tables h.served in
      ap (λ (x : Held World). (calls (replay_call j x.world.residuals) (fresh plane) again).world)
      (calls_are j source w f asks h.room h.enough)
      ∙ replay_same_all j source w f plane long again room k;
  written = λ j source w asks t e room. small_written j source w (walk_told j source (fresh w) t e) asks room;
  taken = λ j residuals x t e. small_taken j residuals x (replay_told j residuals x t e);
  altered = replay_altered;
  walk_split = λ j source x asks t room long. split (walk_steps j source) x asks (ask (granted asks) t) room long refl;
  replay_split = λ j residuals x asks t room long. split (replay_steps j residuals) x asks (ask (granted asks) t) room long refl;
  walk_does = λ j source x asks t e room.
      let f = walk_told j source x t e in (
        all_served (walk_steps j source) x asks f room,
        subst (WalkDoes j source x _) (sym (all_done (walk_steps j source) x asks f room))
            (walk_done j source x (granted asks) f),
      );
  replay_does = λ j residuals x asks t e room.
      let f = replay_told j residuals x t e in (
        all_served (replay_steps j residuals) x asks f room,
        subst (ReplayDoes j residuals x _)
            (sym (all_done (replay_steps j residuals) x asks f room)) (replay_done j residuals x (granted asks) f),
      );
  by_walk_numbers = λ κs self still rows cols sides modes source work residuals refs indices fractions grant a e p. walk_gave _ _ _ _ (stepped_of a) _
      p.0 p.1.0;
  by_replay_numbers = λ κs self still rows cols sides modes residuals plane refs indices fractions grant a e p. replay_gave _ _ _ _ (stepped_of a) _
      p.0 p.1.0;
  by_walk = λ {𝓤 = 𝓤} 𝓛 mem run κs self still plan source work residuals scratch grant a e. fact_mono 𝓤 _ _
      (λ p. walk_gave _ _ _ _ (stepped_of a) _ p.0 p.1.0);
  by_replay = λ {𝓤 = 𝓤} 𝓛 mem run κs self still plan residuals plane scratch grant a e. fact_mono 𝓤 _ _
      (λ p. replay_gave _ _ _ _ (stepped_of a) _ p.0 p.1.0);
  one_plan = numbers_listed;
  walk_made = λ j source x asks y m. made_calls (λ x a y g. g.1.left) x asks y m;
  replay_made = λ j residuals x asks y m. made_calls (λ x a y g. g.1.left) x asks y m;
  of_doors = λ j source w asks h x m plane long again room y n.
      let f = walk_told j source (fresh w) h.tables h.served in
      let walk = made_calls (λ x a y g. g.1.left) (fresh w) asks x m in
      let replay = made_calls (λ x a y g. g.1.left) (fresh plane) again y n in
      let same = ap (λ (z : Held World). calls (replay_call j z.world.residuals) (fresh plane) again) walk in (
        subst (LosslessWalk j source) (sym walk) (walk_all j source w f asks h.room h.enough),
        subst (Replayed j source plane (min (granted again) (count j))) (sym (replay ∙ same))
            (replay_all j source w f plane long again room asks h.room h.enough).1,
      );
}
