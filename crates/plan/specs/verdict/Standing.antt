-- The check of a plan block by block, where a refusal passes through: each step, what it asks, and that the last step gives the verdict.
-- Rests on the turns of Steps.
use Rattle.std.specs.Prelude.{◌≡◌, refl, Bool, true, false, cond, ℕ, ◌+◌, ◌*◌, ◌≤◌, ◌<◌, [], ◌∷◌, eqb}
use Rattle.std.proofs.Common.{arith, eq-eqb, ne_eqb}
use Rattle.std.proofs.Math.Decide.{ℕ_discrete}
use Rattle.laws.specs.Choose.{◌unless◌, first_fail}
use Rattle.order.specs.Order.{picture_ok}
use Rattle.order.specs.Good.{Good}
use Rattle.plan.specs.declared.tiling.Frame.{Frame}
use Rattle.plan.specs.declared.tiling.Block.{Block}
use Rattle.plan.specs.Answers.{Verdict}
use Rattle.plan.specs.Answers.{Checking}
use Rattle.plan.specs.tiling.Tiling.{picture_of}
use Rattle.plan.specs.tiling.Plan.{Plan}
use Rattle.plan.specs.tiling.Check.{block_number}
use Rattle.plan.specs.tiling.PlanCheck.{plan_verdict}
use Rattle.plan.specs.tiling.Ahead.{area_small}
use Rattle.plan.specs.tiling.Tests.{picture_good}
use Rattle.plan.specs.tiling.Steps.{Running, running_none, running_stops, block_fits, running_more, running_end}

-- numbers 4 and 5 come before the blocks
unfoldable pub check_start : Frame → Bool → Checking
check_start f whole = record { no = first_fail ((4 unless picture_ok (picture_of f)) ∷ (5 unless whole) ∷ []); block = 0; covered = 0 }

-- block i, where those before it cover `covered` samples
unfoldable pub check_block : Frame → ℕ → Block → ℕ → Checking
check_block f covered b i =
    let n = block_number f b covered in
    cond (eqb n 0) (record { no = 0; block = 0; covered = covered + b.side * b.side }) (record { no = n; block = i; covered = covered })

-- a refusal passes through
unfoldable pub check_step : Frame → Checking → Block → ℕ → Checking
check_step f t b i = cond (eqb t.no 0) (check_block f t.covered b i) t

-- number 10 comes after them
unfoldable pub check_end : Frame → Checking → Verdict
check_end f t = cond (eqb t.no 0) (record { no = cond (eqb t.covered (f.height * f.width)) 0 10; block = 0 })
    (record { no = t.no; block = t.block })

-- what a step asks: where nothing is refused yet, the picture is good, and the block's list number has room in 32 bits
abbrev pub Unrefused : Frame → Checking → ℕ → Type 0
Unrefused f t i = t.no ≡ 0 → Good (picture_of f) × (i < 4294967296)

-- the samples that a block adds, which the code's numbers have room for
pub step_fits : {f : Frame} → Good (picture_of f) → (b : Block) (covered : ℕ) → block_number f b covered ≡ 0 → (b.side * b.side ≤ 1024)
    × (covered + b.side * b.side ≤ 16777216)
step_fits g b covered e =
    let s = block_fits g b covered e in
    (s.0, omega (arith, s.1.1, area_small g))

-- i blocks are looked at: none is refused and the check runs, or the verdict is known
pub record Standing (f : Frame) (plan : Plan) (i : ℕ) (t : Checking) : Type 0 where
  pub good : t.no ≡ 0 → Good (picture_of f)
  pub runs : t.no ≡ 0 → Running f plan.block (plan_verdict f plan) plan.count i t.covered
  pub told : (t.no ≡ 0 → ⊥) → record { no = t.no; block = t.block } ≡ plan_verdict f plan

-- a list number is no larger than the samples before it
pub standing_asks : {f : Frame} {plan : Plan} {i : ℕ} {t : Checking} → Standing f plan i t → Unrefused f t i
standing_asks s z = (s.good z, omega (arith, (s.runs z).few, (s.runs z).fits, area_small (s.good z)))

pub standing_none : (f : Frame) (plan : Plan) → Standing f plan 0 (check_start f plan.whole)
unfolding check_start plan_verdict
standing_none f plan = go (picture_ok (picture_of f)) plan.whole refl refl
  where
    go : (b w : Bool) → picture_ok (picture_of f) ≡ b → plan.whole ≡ w
        → Standing f plan 0 (record { no = first_fail ((4 unless b) ∷ (5 unless w) ∷ []); block = 0; covered = 0 })
    go true true e q = record {
      good = λ _. picture_good f e;
      runs = λ _. rw (e, q) (running_none f plan.block plan.count);
      told =
          λ n. absurd (n refl);
    }
    go true false e q = record { good = λ z. absurd (omega (arith, z)); runs = λ z. absurd (omega (arith, z)); told = λ _. rw (e, q) }
    go false w e q = record { good = λ z. absurd (omega (arith, z)); runs = λ z. absurd (omega (arith, z)); told = λ _. rw e }

-- a block that is not refused adds its samples
pub standing_more : {f : Frame} {plan : Plan} {i : ℕ} {t : Checking} → Standing f plan i t → i < plan.count → (b : Block) → b
    ≡ plan.block i
    → Standing f plan (i + 1) (check_step f t b i)
unfolding check_step check_block
standing_more {f} {plan} {i} {t} s l b q = go (ℕ_discrete t.no 0)
  where
    n : ℕ
    n = block_number f b t.covered

    go : Dec (t.no ≡ 0) → Standing f plan (i + 1) (check_step f t b i)
    go (no d) = rw (ne_eqb t.no 0 d) (record { good = λ z. absurd (d z); runs = λ z. absurd (d z); told = λ _. s.told d })
    go (yes z) = rw (eq-eqb t.no 0 z) (look (ℕ_discrete n 0))
      where
        look : Dec (n ≡ 0) → Standing f plan (i + 1) (check_block f t.covered b i)
        look (yes e) =
            rw (eq-eqb n 0 e)
            (record { good = λ _. s.good z; runs = λ _. running_more (s.good z) (s.runs z) l b q n refl e; told = λ d. absurd (d refl) })
        look (no d) =
            rw (ne_eqb n 0 d)
            (record {
              good = λ e. absurd (d e);
              runs = λ e. absurd (d e);
              told = λ _. running_stops (s.good z) (s.runs z) l b q n refl d;
            })

pub standing_end : {f : Frame} {plan : Plan} {i : ℕ} {t : Checking} → Standing f plan i t → plan.count ≤ i → check_end f t
    ≡ plan_verdict f plan
unfolding check_end
standing_end {f} {plan} {i} {t} s l = go (ℕ_discrete t.no 0)
  where
    go : Dec (t.no ≡ 0) → check_end f t ≡ plan_verdict f plan
    go (yes z) = rw (eq-eqb t.no 0 z) (running_end (s.runs z) l (eqb t.covered (f.height * f.width)) refl)
    go (no d) = rw (ne_eqb t.no 0 d) (s.told d)

-- what a loop over the blocks rests on: its start, its turns and its end
pub ruleset standing = (standing_none, standing_more, standing_end)
