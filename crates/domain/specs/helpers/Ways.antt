-- The cases of a sign, as a test finds them, and what an absolute value and a clamp are in each. Assumes nothing.
use Rattle.std.specs.Prelude.{◌≡◌, refl, true, false, ℕ, zero, suc, ◌+◌, ◌-◌, ◌≤◌, ◌<◌, T, ℤ, pos, negsuc, nat_abs, ◌-ℤ◌}
use Rattle.std.proofs.Common.{sym, ap, ◌∙◌, true≢false, not-suc-le-zero, arith, ltb-true, ltb-false, Fits, SFits, to_z, of_z, to_z-of_z}
use Rattle.std.proofs.lemmas.Bool.{false≢true}
use Rattle.std.proofs.Math.Nat.{min-eq_left, min-eq_right}
use Rattle.std.specs.Int.{w32}
use Rattle.std.proofs.Math.Facts.{Fits-nat_abs}
use Rattle.std.proofs.Math.IntN.{sub_ℕ}
use Rattle.std.specs.Int.Signed.{mag, lt_z, non_neg}
use Rattle.h265.specs.Notation.{clip_to}
use Rattle.laws.specs.Diff.{sub_neg, sub_pos}
use Rattle.laws.specs.Signed.{held}

-- a difference of two natural numbers
pub whole : (a b : ℕ) → pos a -ℤ pos b ≡ sub_ℕ a b
whole a zero = ap pos (let e : a + 0 ≡ a - 0 = omega arith in e) ∙ sym (sub_pos a 0 (omega arith))
whole a (suc b) = refl

pub apart_below : (a b : ℕ) → a < b → b - a ≡ nat_abs (pos a -ℤ pos b)
apart_below a b h = rw (whole a b, sub_neg a b h) (omega arith)

pub apart_above : (a b : ℕ) → b ≤ a → a - b ≡ nat_abs (pos a -ℤ pos b)
apart_above a b h = rw (whole a b, sub_pos a b h)

-- a number that is not below 0
pub nonneg : (z : ℤ) → lt_z z (pos 0) ≡ false → T (non_neg z)
nonneg (pos k) e = tt
nonneg (negsuc k) e = absurd (true≢false e)

-- which the machine casts to an unsigned number
pub unsigned : (z : ℤ) → SFits w32 z → lt_z (to_z w32 (of_z w32 z)) (pos 0) ≡ false → T (non_neg (to_z w32 (of_z w32 z)))
    × Fits w32 (nat_abs (to_z w32 (of_z w32 z)))
unsigned z f e = let b = to_z-of_z {w = w32} f in rw b (nonneg z (rw b at e), Fits-nat_abs {w = w32} tt f)

-- a number below 0, taken from -1, is its magnitude, one short of its absolute value
module _ (z : ℤ) (f : SFits w32 z) (e : lt_z (to_z w32 (of_z w32 z)) (pos 0) ≡ true) where
  mirror : (y : ℤ) → lt_z y (pos 0) ≡ true → (negsuc 0 -ℤ y ≡ pos (mag y)) × (mag y + 1 ≡ nat_abs y)
  mirror (pos k) g = absurd (not-suc-le-zero (ltb-true k 0 g))
  mirror (negsuc k) g = (sub_pos (suc k) 1 (omega arith) ∙ ap pos (omega arith), omega arith)

  flipped : negsuc 0 -ℤ to_z w32 (of_z w32 z) ≡ pos (mag z)
  flipped = let b = to_z-of_z {w = w32} f in rw b (mirror z (rw b at e)).0

  pub flip_fits : SFits w32 (negsuc 0 -ℤ to_z w32 (of_z w32 z))
  flip_fits = rw flipped (record { sfits = f.sfits })

  pub flip_gives : to_z w32 (of_z w32 (negsuc 0 -ℤ to_z w32 (of_z w32 z))) ≡ pos (mag z)
  flip_gives = rw flipped (held (pos (mag z)) f.sfits)

  pub one_short : mag z + 1 ≡ nat_abs z
  one_short = (mirror z (rw (to_z-of_z {w = w32} f) at e)).1

-- the clamp: below 0, within, and over
pub under : (m : ℕ) (z : ℤ) → lt_z z (pos 0) ≡ true → 0 ≡ clip_to m z
under m (pos k) e = absurd (not-suc-le-zero (ltb-true k 0 e))
under m (negsuc k) e = refl

pub within : (m : ℕ) (z : ℤ) → T (non_neg z) → nat_abs z ≤ m → nat_abs z ≡ clip_to m z
within m (pos k) t h = sym (min-eq_left h)
within m (negsuc k) t h = absurd t

pub over : (m : ℕ) (z : ℤ) → T (non_neg z) → m ≤ nat_abs z → m ≡ clip_to m z
over m (pos k) t h = sym (min-eq_right h)
over m (negsuc k) t h = absurd t

-- r stands for v in every clamp to 32767 or less, and is an i16
pub record Narrowed (v r : ℤ) : Type 0 where
  pub short : mag r < 32768
  pub same : (m : ℕ) → m ≤ 32767 → clip_to m r ≡ clip_to m v

pub narrow_low : (v : ℤ) → lt_z v (negsuc 32767) ≡ true → Narrowed v (negsuc 32767)
narrow_low (pos k) e = absurd (false≢true e)
narrow_low (negsuc k) e = record { short = omega arith; same = λ m h. refl }

pub narrow_high : (v : ℤ) → lt_z (pos 32767) v ≡ true → Narrowed v (pos 32767)
narrow_high (pos k) e = let l = ltb-true 32767 k e in record { short = omega arith; same = λ m h. omega arith }
narrow_high (negsuc k) e = absurd (false≢true e)

pub narrow_none : (v : ℤ) → lt_z v (negsuc 32767) ≡ false → lt_z (pos 32767) v ≡ false → Narrowed v v
narrow_none (pos k) e f = let l = ltb-false 32767 k f in record { short = omega arith; same = λ m h. refl }
narrow_none (negsuc k) e f = let l = ltb-false 32767 k e in record { short = omega arith; same = λ m h. refl }

-- an i16 that is not below 0
pub as_clipped : (z : ℤ) → T (non_neg z) → mag z < 32768 → z ≡ pos (clip_to 32767 z)
as_clipped (pos k) t h = ap pos (sym (min-eq_left (omega arith)))
as_clipped (negsuc k) t h = absurd t

-- a clamp to less, from the clamp to 32767
pub short_under : (l : ℕ) (v : ℤ) → l ≤ 32767 → clip_to 32767 v < l → clip_to 32767 v ≡ clip_to l v
short_under l (pos k) h e = omega arith
short_under l (negsuc k) h e = refl

pub short_over : (l : ℕ) (v : ℤ) → l ≤ 32767 → l ≤ clip_to 32767 v → l ≡ clip_to l v
short_over l (pos k) h e = omega arith
short_over l (negsuc k) h e = omega arith

pub clip_most : (m : ℕ) (z : ℤ) → clip_to m z ≤ m
clip_most m (pos k) = omega arith
clip_most m (negsuc k) = omega arith
