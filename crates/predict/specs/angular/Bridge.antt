-- 8.4.4.2.6 as the text has it and with no number below 0 are one. Assumes nothing.
use Rattle.std.specs.Prelude.{◌≡◌, refl, ◌⊎◌, Bool, false, T, leb, ltb, eqb, get_or, ℤ, neg_ℤ, ◌+ℤ◌, ◌*ℤ◌}
use Rattle.std.proofs.Math.Path.{ap}
use Rattle.std.proofs.Common.{◌∙◌, inl, inr, mul-le-mul_left, mul-zero, leb→le, eqb→eq}
use Rattle.std.proofs.Math.Logic.{⊎_elim}
use Rattle.std.proofs.Math.Bool.{true, cond}
use Prim.Native.Nat.{ℕ, zero, suc, ◌+◌, ◌-◌, ◌*◌, ◌/◌, ◌%◌, ◌≤◌, ◌<◌}
use Rattle.std.proofs.Math.Nat.{zero-mul}
use native.Mathlib.Omega.{arith}
use borrow.Author.Tests.{lt-ltb, le-ltb, le-leb, lt-leb, ne_eqb}
use Rattle.laws.specs.Table.{at}
use Rattle.std.proofs.Math.IntN.{pos, negsuc, sub_ℕ}
use Rattle.std.specs.Int.Signed.{shr_z, lt_z, le_z}
use Rattle.h265.specs.Notation.{Neighbours, near, ◌>>◌, low5}
use Rattle.h265.specs.Angular.{intra_pred_angle, inv_angle, ref, project, angular}
use Rattle.predict.specs.angles.Starts.{fraction_of}
use Rattle.predict.specs.angular.Lines.{first_le}
use Rattle.samples.specs.taps.Taps.{interp_of}
use Rattle.predict.specs.angular.Unsigned.{angles, inverses, ref_start, side_of, ref_at, vertical_at, mirror, angular_at}
use Rattle.laws.specs.Diff.{order, sub_neg, sub_pos, as_sub, sub_eq, sub_add, sub_mul, sub_shr, sub_le, sub_lt}

-- the two tables, held against the standard's at every mode by a test that antt computes
abbrev same_z : ℤ → ℤ → Bool
same_z (pos a) (pos b) = eqb a b
same_z (pos a) (negsuc b) = false
same_z (negsuc a) (pos b) = false
same_z (negsuc a) (negsuc b) = eqb a b

same : (y z : ℤ) → T (same_z y z) → y ≡ z
same (pos a) (pos b) t = ap pos (eqb→eq a b t)
same (pos a) (negsuc b) t = absurd t
same (negsuc a) (pos b) t = absurd t
same (negsuc a) (negsuc b) t = ap negsuc (eqb→eq a b t)

angle_of : (mode : ℕ) → mode < 35 → intra_pred_angle mode ≡ sub_ℕ (get_or angles mode 0) 32
unfolding intra_pred_angle
angle_of mode h = same _ _ (at (λ k e. same_z (intra_pred_angle k) (sub_ℕ e 32)) angles tt mode h)

pub angle_most : (mode : ℕ) → mode < 35 → get_or angles mode 0 ≤ 64
angle_most mode h = leb→le (get_or angles mode 0) 64 (at (λ k x. leb x 64) angles tt mode h)

inverse_of : (mode : ℕ) → mode < 35 → inv_angle mode ≡ neg_ℤ (pos (get_or inverses mode 0))
unfolding inv_angle
inverse_of mode h = same _ _ (at (λ k i. same_z (inv_angle k) (neg_ℤ (pos i))) inverses tt mode h)

-- the low bits of a difference
sub_low5 : (a b : ℕ) → low5 (sub_ℕ a (b * 32)) ≡ a % 32
sub_low5 a b =
    ⊎_elim (λ h. rw (sub_neg a (b * 32) h) (omega arith)) (λ h. rw (sub_pos a (b * 32) h) (omega arith)) (order a (b * 32))

-- a row's place and fraction
index_of : (e r : ℕ) → (pos (r + 1) *ℤ sub_ℕ e 32 >> 5) ≡ sub_ℕ ((r + 1) * e / 32) (r + 1)
index_of e r = ap (λ (z : ℤ). shr_z z 32) (sub_mul (r + 1) e 32) ∙ sub_shr ((r + 1) * e) (r + 1)

fact_of : (e r : ℕ) → low5 (pos (r + 1) *ℤ sub_ℕ e 32) ≡ fraction_of e r
fact_of e r = ap low5 (sub_mul (r + 1) e 32) ∙ sub_low5 ((r + 1) * e) (r + 1)

place : (e r c k : ℕ) → r < 32 → pos c +ℤ sub_ℕ ((r + 1) * e / 32) (r + 1) +ℤ pos (k + 1) ≡ sub_ℕ (ref_start e r + c + k) 64
place e r c k h =
    rw (as_sub c, as_sub (k + 1), sub_add c 0 ((r + 1) * e / 32) (r + 1), sub_add (c + (r + 1) * e / 32) (0 + (r + 1)) (k + 1) 0)
    (sub_eq (c + (r + 1) * e / 32 + (k + 1)) (0 + (r + 1) + 0) (ref_start e r + c + k) 64 (omega arith))

-- the neighbours as the text reads them, straight or mirrored: main is above, side is left
module _ (p : ℤ → ℤ → ℕ) (nb : Neighbours) (atMain : (i : ℕ) → p (pos i) (negsuc 0) ≡ nb.above i)
    (atSide : (i : ℕ) → p (negsuc 0) (pos i) ≡ nb.left i) (atCorner : p (negsuc 0) (negsuc 0) ≡ nb.corner) where
  step_side : (s : ℕ) → p (negsuc 0) (negsuc 0 +ℤ pos s) ≡ cond (eqb s 0) nb.corner (nb.left (s - 1))
  step_side zero = atCorner
  step_side (suc s) = rw (ne_eqb (suc s) 0 (λ q. let z : suc s ≡ 0 = q in omega arith))
      (ap (p (negsuc 0)) (sub_pos (suc s) 1 (omega arith)) ∙ atSide (suc s - 1))

  -- after the corner
  ref_main : (n e inv j : ℕ) → 64 < j → (j ≤ 64 + n) ⊎ ((32 ≤ e) × (j ≤ 64 + 2 * n)) → ref p n (sub_ℕ e 32) (neg_ℤ (pos inv)) (sub_ℕ j 64)
      ≡ ref_at nb inv j
  unfolding ref ref_at
  ref_main n e inv j h d =
      let m : nb.above (j - 65) ≡ cond (ltb 64 j) (nb.above (j - 65))
      (cond (eqb (side_of inv j) 0) nb.corner (nb.left (side_of inv j - 1))) = rw (lt-ltb 64 j h) in
      let q : p (negsuc 0 +ℤ pos (j - 64)) (negsuc 0)
      ≡ nb.above (j - 65) = ap (λ (z : ℤ). p z (negsuc 0)) (sub_pos (j - 64) 1 (omega arith)) ∙ atMain (j - 64 - 1)
      ∙ ap nb.above (omega arith) in
      ⊎_elim
      (λ l. rw (sub_pos j 64 (omega arith), le-leb 0 (j - 64) (omega arith), le-leb (j - 64) n (omega arith)) (q ∙ m))
      (λ k. ⊎_elim
      (λ l. rw (
        sub_pos j 64 (omega arith),
        le-leb 0 (j - 64) (omega arith),
        lt-leb (j - 64) n (omega arith),
        sub_pos e 32 k.0,
        le-ltb
            (e - 32) 0 (omega arith),
        le-leb 0 (e - 32) (omega arith),
        lt-ltb n (j - 64) l,
        le-leb (j - 64) (2 * n) (omega arith),
      ) (q ∙ m))
      (λ l. rw (sub_pos j 64 (omega arith), le-leb 0 (j - 64) (omega arith), le-leb (j - 64) n l) (q ∙ m))
      (order n (j - 64)))
      d

  -- the corner and before it
  times_inv : (k inv : ℕ) → negsuc k *ℤ neg_ℤ (pos inv) ≡ pos (suc k * inv)
  times_inv k zero = rw mul-zero
  times_inv k (suc inv) = refl

  ref_side : (n e inv j : ℕ) → j < 64 → e < 32 → n * e / 32 + 65 ≤ j + n → ref p n (sub_ℕ e 32) (neg_ℤ (pos inv)) (sub_ℕ j 64) ≡ ref_at nb inv j
  unfolding ref ref_at
  ref_side n e inv j h s l =
      let k = 64 - suc j in
      let last : (pos n *ℤ sub_ℕ e 32 >> 5) ≡ sub_ℕ (n * e / 32) n = ap (λ (z : ℤ). shr_z z 32) (sub_mul n e 32) ∙ sub_shr (n * e) n in
      let a : lt_z (sub_ℕ e 32) (pos 0) ≡ true = sub_lt e 32 0 0 (omega arith) in
      let b : lt_z (sub_ℕ (n * e / 32) n) (negsuc 0) ≡ true = sub_lt (n * e / 32) n 0 1 (omega arith) in
      let g : le_z (sub_ℕ (n * e / 32) n) (sub_ℕ j 64) ≡ true = sub_le (n * e / 32) n j 64 (omega arith) in
      let x : sub_ℕ j 64 ≡ negsuc k = sub_neg j 64 h in
      let q : suc k * inv ≡ (64 - j) * inv = ap (λ (i : ℕ). i * inv) (omega arith) in
      rw (last, a, b, g, x, times_inv k inv, q, le-ltb 64 j (omega arith)) (step_side (side_of inv j))

  ref_corner : (n e inv : ℕ) → ref p n (sub_ℕ e 32) (neg_ℤ (pos inv)) (sub_ℕ 64 64) ≡ ref_at nb inv 64
  unfolding ref ref_at
  ref_corner n e inv = rw (le-leb 0 n (omega arith), zero-mul inv) atCorner

  ref_of : (n e inv j : ℕ) → (j < 64 → (e < 32) × (n * e / 32 + 65 ≤ j + n)) → (64 < j → (j ≤ 64 + n) ⊎ ((32 ≤ e) × (j ≤ 64 + 2 * n)))
      → ref p n (sub_ℕ e 32) (neg_ℤ (pos inv)) (sub_ℕ j 64) ≡ ref_at nb inv j
  ref_of n e inv j low high =
      ⊎_elim (λ h. ref_side n e inv j h (low h).0 (low h).1)
      (λ h. ⊎_elim (λ k. ref_main n e inv j k (high k)) (λ k. let q : j ≡ 64 = omega arith in rw q (ref_corner n e inv)) (order 64 j))
      (order j 64)

  -- the row's samples read no reference that the text gives no value
  module _ (n e inv r c : ℕ) (s : n ≤ 32) (t : e ≤ 64) (hr : r < n) (hc : c < n) where
    low : (j : ℕ) → ref_start e r ≤ j → j < 64 → (e < 32) × (n * e / 32 + 65 ≤ j + n)
    low j f h =
        ⊎_elim (λ l. (l, let q = first_le e n r l hr in omega arith))
        (λ l. let y : (r + 1) * 32 ≤ (r + 1) * e = mul-le-mul_left (r + 1) l in absurd (omega arith))
        (order e 32)

    high : (j : ℕ) → j ≤ ref_start e r + c + 1 → (fraction_of e r ≡ 0 → j ≤ ref_start e r + c) → (j ≤ 64 + n) ⊎ ((32 ≤ e) × (j ≤ 64 + 2 * n))
    high j f z =
        let y : (r + 1) * e ≤ (r + 1) * 64 = mul-le-mul_left (r + 1) t in
        ⊎_elim
        (λ l. let y : (r + 1) * e ≤ (r + 1) * 31 = mul-le-mul_left (r + 1) (omega arith) in inl (omega arith))
        (λ l. ⊎_elim (λ p. inr (l, omega arith)) (λ p. let q : fraction_of e r ≡ 0 = omega arith in let w = z q in inr (l, omega arith))
        (order 0 (fraction_of e r)))
        (order e 32)

    projected : project (ref p n (sub_ℕ e 32) (neg_ℤ (pos inv))) (sub_ℕ e 32) c r ≡ vertical_at nb e inv r c
    unfolding project vertical_at interp_of
    projected =
        let j = ref_start e r + c in
        let i = index_of e r in
        let f = fact_of e r in
        let first : ref p n (sub_ℕ e 32) (neg_ℤ (pos inv)) (pos c +ℤ (pos (r + 1) *ℤ sub_ℕ e 32 >> 5) +ℤ pos 1) ≡ ref_at nb inv j =
        ap (λ (z : ℤ). ref p n (sub_ℕ e 32) (neg_ℤ (pos inv)) (pos c +ℤ z +ℤ pos 1)) i
        ∙ ap (ref p n (sub_ℕ e 32) (neg_ℤ (pos inv))) (place e r c 0 (omega arith)
        ∙ ap (λ (k : ℕ). sub_ℕ k 64) (let q : j + 0 ≡ j = omega arith in q))
        ∙ ref_of n e inv j (low j (omega arith)) (λ h. high j (omega arith) (λ z. omega arith)) in
        let second : 0 < fraction_of e r → ref p n (sub_ℕ e 32) (neg_ℤ (pos inv)) (pos c +ℤ (pos (r + 1) *ℤ sub_ℕ e 32 >> 5) +ℤ pos 2)
        ≡ ref_at nb inv (j + 1) =
        λ g.
        ap (λ (z : ℤ). ref p n (sub_ℕ e 32) (neg_ℤ (pos inv)) (pos c +ℤ z +ℤ pos 2)) i
        ∙ ap (ref p n (sub_ℕ e 32) (neg_ℤ (pos inv))) (place e r c 1 (omega arith))
        ∙ ref_of n e inv (j + 1) (low (j + 1) (omega arith)) (λ h. high (j + 1) (omega arith) (λ z. absurd (omega arith))) in
        ⊎_elim
        (λ g. rw (f, ne_eqb (fraction_of e r) 0 (λ z. let q : fraction_of e r ≡ 0 = z in omega arith), first, second g))
        (λ g. let q : fraction_of e r ≡ 0 = omega arith in rw (f, q, first) (omega arith))
        (order 0 (fraction_of e r))

-- the text's sample is the one with no number below 0
pub angular_same : (bits n mode : ℕ) (edge : Bool) (nb : Neighbours) (x y : ℕ) → n ≤ 32 → mode < 35 → x < n → y < n
    → angular bits edge n mode nb x y ≡ angular_at bits edge n mode nb x y
unfolding angular angular_at
angular_same bits n mode edge nb x y s m hx hy =
    let e = get_or angles mode 0 in
    let inv = get_or inverses mode 0 in
    let t : e ≤ 64 = angle_most mode m in
    rw (
      angle_of mode m,
      inverse_of mode m,
      projected (near nb) nb (λ i. refl) (λ i. refl) refl n e inv y x s t hy hx,
      projected (λ (a b : ℤ). near nb b a) (mirror nb) (λ i. refl) (λ i. refl) refl n e inv x y s t hx hy,
    )
