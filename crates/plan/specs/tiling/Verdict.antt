-- What a plan's verdict tells: its number is 0 exactly when the plan is good, and each other number stands for what document 01's
-- table says, of the first block that breaks a rule. Assumes nothing.
use Rattle.std.specs.Prelude.{◌≡◌, refl, Bool, true, false, cond, eqb}
use Rattle.std.proofs.Common.{sym, ap, ◌∙◌, subst, true≢false, ⊎_elim, eq-or-lt_of_le, le_of_suc-le-suc, eq-eqb, ne_eqb}
use Prim.Native.Nat.{ℕ, zero, suc, ◌+◌, ◌*◌, ◌≤◌, ◌<◌}
use native.Mathlib.Omega.{arith}
use Rattle.std.proofs.Math.Decide.{ℕ_discrete}
use Rattle.laws.specs.Choose.{if_yes, if_no}
use Rattle.domain.specs.Facts.{Size}
use Rattle.order.specs.Order.{picture_ok}
use Rattle.order.specs.Good.{Good}
use Rattle.plan.specs.declared.tiling.Frame.{Frame}
use Rattle.plan.specs.declared.tiling.Block.{Block}
use Rattle.plan.specs.Answers.{Verdict}
use Rattle.plan.specs.tiling.Tiling.{picture_of, In, Covered, Placed, Next, GoodPlan, place}
use Rattle.plan.specs.tiling.Plan.{Plan}
use Rattle.plan.specs.tiling.Check.{ahead, block_number}
use Rattle.plan.specs.tiling.PlanCheck.{verdict_from, plan_verdict}
use Rattle.plan.specs.tiling.Tests.{picture_good, good_picture, BlockNumbered, is_fine, not_size, not_mode, not_placed, not_next}
use Rattle.plan.specs.tiling.Tests.{numbered}
use Rattle.plan.specs.tiling.Cover.{Checked, refusal_9, gap, good_plan}

-- the modes of the first n blocks are modes
abbrev pub Modes : (ℕ → Block) → ℕ → Type 0
Modes plan n = (i : ℕ) → i < n → (plan i).mode ≤ 34

-- the first n blocks break no rule
abbrev pub Fine : Frame → (ℕ → Block) → ℕ → Type 0
Fine f plan n = (i : ℕ) → i < n → Placed f (plan i) × (((plan i).mode ≤ 34) × Next f plan i)

-- block k keeps the rules that come before number n, and breaks that one
pub data Broken (f : Frame) (plan : ℕ → Block) (k n : ℕ) : Type 0 where
  bad_size : n ≡ 2 → (Size (plan k).side → ⊥) → Broken f plan k n
  bad_mode : n ≡ 3 → Size (plan k).side → 34 < (plan k).mode → Broken f plan k n
  bad_place : n ≡ 6 → Size (plan k).side → (plan k).mode ≤ 34 → (Placed f (plan k) → ⊥) → Broken f plan k n
  bad_order : n ≡ 9 → Placed f (plan k) → (plan k).mode ≤ 34 → (Next f plan k → ⊥) → Broken f plan k n

-- block k is the first that breaks a rule, and that rule has number n
pub record FirstBroken (f : Frame) (plan : ℕ → Block) (count n k : ℕ) : Type 0 where
  pub listed : k < count
  pub before : Fine f plan k
  pub broken : Broken f plan k n

-- the blocks break no rule, and a sample of the picture is uncovered
pub record Gap (f : Frame) (plan : ℕ → Block) (count : ℕ) : Type 0 where
  pub before : Fine f plan count
  pub row : ℕ
  pub col : ℕ
  pub inside : In f row col
  pub bare : Covered plan count row col → ⊥

pub record Accepted (f : Frame) (plan : ℕ → Block) (count : ℕ) : Type 0 where
  pub picture : Good (picture_of f)
  pub plan_good : GoodPlan f plan count
  pub modes : Modes plan count

-- what a verdict tells
pub data Told (f : Frame) (l : Plan) (v : Verdict) : Type 0 where
  is_good : v ≡ record { no = 0; block = 0 } → l.whole ≡ true → Accepted f l.block l.count → Told f l v
  bad_picture : v ≡ record { no = 4; block = 0 } → (Good (picture_of f) → ⊥) → Told f l v
  not_whole : v ≡ record { no = 5; block = 0 } → Good (picture_of f) → l.whole ≡ false → Told f l v
  bad_block : (n k : ℕ) → v ≡ record { no = n; block = k } → Good (picture_of f) → l.whole ≡ true
      → FirstBroken f l.block l.count n k → Told f l v
  bad_cover : v ≡ record { no = 10; block = 0 } → Good (picture_of f) → l.whole ≡ true → Gap f l.block l.count → Told f l v

module _ (f : Frame) (l : Plan) (g : Good (picture_of f)) (w : l.whole ≡ true) where
  abbrev plan : ℕ → Block
  plan = l.block

  abbrev count : ℕ
  count = l.count

  -- what the loop has found
  abbrev Found : ℕ → Type 0
  Found k = Checked g plan k × Modes plan k

  fine : (k : ℕ) → Found k → Fine f plan k
  fine k h i l = ((h.0 i l).0, (h.1 i l, (refusal_9 g plan i (λ j m. h.0 j (omega arith)) (h.0 i l).0).0 (h.0 i l).1))

  more : (k : ℕ) → Found k → Placed f (plan k) → (plan k).mode ≤ 34 → ahead f (plan k).row (plan k).col ≡ place plan k → Found (suc k)
  more k h p m e = (
    λ i l. ⊎_elim (λ q. subst (λ (j : ℕ). Placed f (plan j) × (ahead f (plan j).row (plan j).col ≡ place plan j)) (sym q) (p, e))
        (h.0 i) (eq-or-lt_of_le (le_of_suc-le-suc l)),
    λ i l. ⊎_elim (λ q. subst (λ (j : ℕ). (plan j).mode ≤ 34) (sym q) m) (h.1 i) (eq-or-lt_of_le (le_of_suc-le-suc l)),
  )

  -- block k has number x, which is n and not 0
  stops : (k n x : ℕ) → k < count → Found k → Broken f plan k n → 0 < n → (v : Verdict) → x ≡ n
      → Told f l (cond (eqb x 0) v (record { no = x; block = k }))
  stops k n x m h b pos v e =
      subst (λ (u : ℕ). Told f l (cond (eqb u 0) v (record { no = u; block = k }))) (sym e)
      (bad_block n k (sym (if_no (eqb n 0) v at at (ne_eqb n 0 (λ z. omega (arith, z))) refl)) g w
      (record { listed = m; before = fine k h; broken = b }))
    where
      at : Verdict
      at = record { no = n; block = k }

  -- the verdict on m blocks from block k on, where those before it are found fine
  told_from : (m k : ℕ) → k + m ≡ count → Found k → Told f l (verdict_from f plan m k (place plan k))
  unfolding verdict_from place
  told_from zero k e h = go (ℕ_discrete (place plan k) (f.height * f.width))
    where
      q : k ≡ count
      q = omega arith

      go : Dec (place plan k ≡ f.height * f.width) → Told f l
          (record { no = cond (eqb (place plan k) (f.height * f.width)) 0 10; block = 0 })
      go (yes a) =
          is_good (ap (λ (b : Bool). record { no = cond b 0 10; block = 0 }) (eq-eqb (place plan k) (f.height * f.width) a)) w
          (record {
            picture = g;
            plan_good = subst (GoodPlan f plan) q ((good_plan g plan k).0 (h.0, a));
            modes = subst (Modes plan) q
                h.1;
          })
      go (no a) =
          let s = gap g plan k h.0 a in
          bad_cover (ap (λ (b : Bool). record { no = cond b 0 10; block = 0 }) (ne_eqb (place plan k) (f.height * f.width) a)) g w
          (subst (Gap f plan) q (record { before = fine k h; row = s.0; col = s.1; inside = s.2; bare = s.3 }))
  told_from (suc m) k e h = go (told_from m (suc k) (omega arith)) (numbered f (plan k) (place plan k))
    where
      less : k < count
      less = omega arith

      x : ℕ
      x = block_number f (plan k) (place plan k)

      rest : Verdict
      rest = verdict_from f plan m (suc k) (place plan k + (plan k).side * (plan k).side)

      go : (Found (suc k) → Told f l (verdict_from f plan m (suc k) (place plan (suc k)))) → BlockNumbered f (plan k) (place plan k) x
          → Told f l (cond (eqb x 0) rest (record { no = x; block = k }))
      go ih (is_fine z p md a) =
          subst (Told f l) (if_yes (eqb x 0) rest (record { no = x; block = k }) rest (eq-eqb x 0 z) refl) (ih (more k h p md a))
      go ih (not_size z p) = stops k 2 x less h (bad_size refl p) (omega arith) rest z
      go ih (not_mode z p md) = stops k 3 x less h (bad_mode refl p md) (omega arith) rest z
      go ih (not_placed z p md a) = stops k 6 x less h (bad_place refl p md a) (omega arith) rest z
      go ih (not_next z p md a) = stops k 9 x less h (bad_order refl p md (λ y. a ((refusal_9 g plan k h.0 p).1 y))) (omega arith) rest z

-- the whole of it
pub told : (f : Frame) (l : Plan) → Told f l (plan_verdict f l)
unfolding plan_verdict place
told f l = go (picture_ok (picture_of f)) l.whole refl refl
  where
    go : (b w : Bool) → picture_ok (picture_of f) ≡ b → l.whole ≡ w
        → Told f l (cond b (cond w (verdict_from f l.block l.count 0 0) (record { no = 5; block = 0 })) (record { no = 4; block = 0 }))
    go true true e q = told_from f l (picture_good f e) q l.count 0 (omega arith)
        (λ i m. absurd (omega arith), λ i m. absurd (omega arith))
    go true false e q = not_whole refl (picture_good f e) q
    go false w e q = bad_picture refl (λ g. true≢false (sym (good_picture f g) ∙ e))

-- a block's number is none of the others
abbrev Other : ℕ → Type 0
Other n = (n ≡ 0 → ⊥) × ((n ≡ 4 → ⊥) × ((n ≡ 5 → ⊥) × (n ≡ 10 → ⊥)))

block_no : {f : Frame} {plan : ℕ → Block} {k n : ℕ} → Broken f plan k n → Other n
block_no {n = n} b = go b
  where
    other : (m : ℕ) → n ≡ m → Other m → Other n
    other m e o = subst Other (sym e) o

    go : {f : Frame} {plan : ℕ → Block} {k : ℕ} → Broken f plan k n → Other n
    go (bad_size z p) = other 2 z (λ y. omega (arith, y), (λ y. omega (arith, y), (λ y. omega (arith, y), λ y. omega (arith, y))))
    go (bad_mode z p a) = other 3 z (λ y. omega (arith, y), (λ y. omega (arith, y), (λ y. omega (arith, y), λ y. omega (arith, y))))
    go (bad_place z p a b) = other 6 z (λ y. omega (arith, y), (λ y. omega (arith, y), (λ y. omega (arith, y), λ y. omega (arith, y))))
    go (bad_order z p a b) = other 9 z (λ y. omega (arith, y), (λ y. omega (arith, y), (λ y. omega (arith, y), λ y. omega (arith, y))))

no_of : {v w : Verdict} → v ≡ w → v.no ≡ w.no
no_of q = ap (λ (v : Verdict). v.no) q

module _ (f : Frame) (l : Plan) where
  abbrev v : Verdict
  v = plan_verdict f l

  -- the number is 0 exactly when the plan is good
  pub verdict_good : v.no ≡ 0 → (l.whole ≡ true) × Accepted f l.block l.count
  verdict_good e = go (told f l)
    where
      go : Told f l v → (l.whole ≡ true) × Accepted f l.block l.count
      go (is_good q w a) = (w, a)
      go (bad_picture q a) = absurd (omega (arith, e, no_of q))
      go (not_whole q g w) = absurd (omega (arith, e, no_of q))
      go (bad_block n k q g w r) = absurd ((block_no r.broken).0 (sym (no_of q) ∙ e))
      go (bad_cover q g w a) = absurd (omega (arith, e, no_of q))

  pub good_verdict : l.whole ≡ true → Accepted f l.block l.count → v ≡ record { no = 0; block = 0 }
  good_verdict t x = go (told f l)
    where
      go : Told f l v → v ≡ record { no = 0; block = 0 }
      go (is_good q w a) = q
      go (bad_picture q a) = absurd (a x.picture)
      go (not_whole q g w) = absurd (true≢false (sym t ∙ w))
      go (bad_block n k q g w r) = absurd (kept r.broken)
        where
          p : Placed f (l.block k)
          p = x.plan_good.placed k r.listed

          kept : Broken f l.block k n → ⊥
          kept (bad_size z a) = a p.size
          kept (bad_mode z a b) = omega (arith, b, x.modes k r.listed)
          kept (bad_place z a b d) = d p
          kept (bad_order z a b d) = d (x.plan_good.next k r.listed)
      go (bad_cover q g w a) = absurd (a.bare (x.plan_good.all a.row a.col a.inside))

  -- every number but 0, 4, 5 and 10 is about the block it names, and 10 about a sample
  pub verdict_block : (v.no ≡ 0 → ⊥) → (v.no ≡ 4 → ⊥) → (v.no ≡ 5 → ⊥) → (v.no ≡ 10 → ⊥)
      → FirstBroken f l.block l.count v.no v.block
  verdict_block good picture whole cover = go (told f l)
    where
      go : Told f l v → FirstBroken f l.block l.count v.no v.block
      go (is_good q w a) = absurd (good (no_of q))
      go (bad_picture q a) = absurd (picture (no_of q))
      go (not_whole q g w) = absurd (whole (no_of q))
      go (bad_block n k q g w r) = subst (λ (u : Verdict). FirstBroken f l.block l.count u.no u.block) (sym q) r
      go (bad_cover q g w a) = absurd (cover (no_of q))

  pub verdict_cover : v.no ≡ 10 → Gap f l.block l.count
  verdict_cover e = go (told f l)
    where
      go : Told f l v → Gap f l.block l.count
      go (is_good q w a) = absurd (omega (arith, e, no_of q))
      go (bad_picture q a) = absurd (omega (arith, e, no_of q))
      go (not_whole q g w) = absurd (omega (arith, e, no_of q))
      go (bad_block n k q g w r) = absurd ((block_no r.broken).1.1.1 (sym (no_of q) ∙ e))
      go (bad_cover q g w a) = a
