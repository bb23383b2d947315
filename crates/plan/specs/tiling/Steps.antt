-- The turns of the plan check's loops. Assumes nothing.
use Rattle.std.specs.Prelude.{◌≡◌, refl, Bool, eqb}
use Rattle.std.proofs.Common.{sym, ◌∙◌, mul-le-mul, eq-eqb, ne_eqb}
use Rattle.std.proofs.Math.Path.{ap, ap₂}
use Rattle.std.proofs.Math.Bool.{cond}
use Prim.Native.Nat.{ℕ, suc, ◌+◌, ◌-◌, ◌*◌, ◌≤◌, ◌<◌}
use native.Mathlib.Omega.{arith}
use Rattle.laws.specs.Choose.{if_yes, if_no}
use Rattle.domain.specs.Facts.{size_small}
use Rattle.order.specs.Good.{Good}
use Rattle.plan.specs.declared.tiling.Frame.{Frame}
use Rattle.plan.specs.declared.tiling.Block.{Block}
use Rattle.plan.specs.Answers.{Verdict}
use Rattle.plan.specs.tiling.Tiling.{picture_of}
use Rattle.plan.specs.tiling.Check.{block_number}
use Rattle.plan.specs.tiling.PlanCheck.{verdict_from}
use Rattle.plan.specs.tiling.Tests.{BlockNumbered, is_fine, not_size, not_mode, not_placed, not_next, numbered}
use Rattle.plan.specs.tiling.Cover.{block_area}

-- the loop over the blocks: block i is next, and `covered` samples lie before it; v is the whole verdict
pub record Running (f : Frame) (plan : ℕ → Block) (v : Verdict) (count i covered : ℕ) : Type 0 where
  pub within : i ≤ count
  pub few : 16 * i ≤ covered
  pub fits : covered ≤ f.height * f.width
  pub same : verdict_from f plan (count - i) i covered ≡ v

pub running_none : (f : Frame) (plan : ℕ → Block) (count : ℕ) → Running f plan (verdict_from f plan count 0 0) count 0 0
running_none f plan count = record {
  within = omega arith;
  few = omega arith;
  fits = omega arith;
  same = ap
      (λ (m : ℕ). verdict_from f plan m 0 0) (let e : count - 0 ≡ count = omega arith in e);
}

pub running_end : {f : Frame} {plan : ℕ → Block} {v : Verdict} {count i covered : ℕ} → Running f plan v count i covered → count ≤ i
    → (b : Bool) → eqb covered (f.height * f.width) ≡ b → record { no = cond b 0 10; block = 0 } ≡ v
unfolding verdict_from
running_end {f} {plan} {v} {count} {i} {covered} h l b e =
    ap (λ (x : Bool). record { no = cond x 0 10; block = 0 }) (sym e)
    ∙ ap (λ (m : ℕ). verdict_from f plan m i covered) (let z : 0 ≡ count - i = omega (arith, h.within) in z) ∙ h.same

-- a block that is not refused adds samples that the picture has
pub block_fits : {f : Frame} → Good (picture_of f) → (b : Block) (covered : ℕ) → block_number f b covered ≡ 0
    → (b.side * b.side ≤ 1024) × ((16 ≤ b.side * b.side) × (covered + b.side * b.side ≤ f.height * f.width))
block_fits {f} g b covered z = go (numbered f b covered)
  where
    go : BlockNumbered f b covered (block_number f b covered) → (b.side * b.side ≤ 1024)
        × ((16 ≤ b.side * b.side) × (covered + b.side * b.side ≤ f.height * f.width))
    go (is_fine x p m a) =
        let s = size_small b.side p.size in
        (mul-le-mul s.1 s.1, (mul-le-mul s.0 s.0, omega (arith, a, (block_area g b p).1)))
    go (not_size x p) = absurd (omega (arith, x, z))
    go (not_mode x p m) = absurd (omega (arith, x, z))
    go (not_placed x p m a) = absurd (omega (arith, x, z))
    go (not_next x p m a) = absurd (omega (arith, x, z))

-- a turn: b is block i, and n its number
module _ {f : Frame} (g : Good (picture_of f)) {plan : ℕ → Block} {v : Verdict} {count i covered : ℕ}
    (h : Running f plan v count i covered) (l : i < count)
    (b : Block) (q : b ≡ plan i) (n : ℕ) (e : n ≡ block_number f b covered) where
  abbrev after : ℕ
  after = covered + b.side * b.side

  step : cond (eqb n 0) (verdict_from f plan (count - (i + 1)) (i + 1) after) (record { no = n; block = i }) ≡ v
  unfolding verdict_from
  step =
      let a : suc (count - (i + 1)) ≡ count - i = omega arith in
      let z : i + 1 ≡ suc i = omega arith in
      ap₂ (λ (x y : ℕ). cond (eqb x 0) (verdict_from f plan (count - (i + 1)) y after) (record { no = x; block = i })) e z
      ∙ ap (λ (u : Block). cond (eqb (block_number f u covered) 0) (verdict_from f plan (count - (i + 1)) (suc i) (covered + u.side * u.side))
      (record { no = block_number f u covered; block = i })) q
      ∙ ap (λ (m : ℕ). verdict_from f plan m i covered) a ∙ h.same

  -- a block that is refused ends it
  pub running_stops : (n ≡ 0 → ⊥) → record { no = n; block = i } ≡ v
  running_stops d = if_no (eqb n 0) _ (record { no = n; block = i }) (record { no = n; block = i }) (ne_eqb n 0 d) refl ∙ step

  -- one that is not adds its samples
  pub running_more : n ≡ 0 → Running f plan v count (i + 1) after
  running_more z =
      let s = block_fits g b covered (sym e ∙ z) in
      record {
        within = omega arith;
        few = omega (arith, s.1.0, h.few);
        fits = s.1.1;
        same = if_yes (eqb n 0) _ (record { no = n; block = i }) _ (eq-eqb n 0 z) refl ∙ step;
      }
