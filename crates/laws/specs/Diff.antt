-- Whole numbers as differences of two natural ones. Assumes nothing.
use Rattle.std.specs.Prelude.{◌≡◌, refl, ◌⊎◌, true, ℕ, zero, suc, ◌+◌, ◌-◌, ◌*◌, ◌/◌, ◌≤◌, ◌<◌, pos, negsuc, neg_ℤ, ◌+ℤ◌, ◌*ℤ◌}
use Rattle.std.proofs.Common.{sym, ap, ◌∙◌, ⊎_elim, inl, inr, mul-le-mul_left, arith, lt-ltb, le-ltb, le-leb}
use Rattle.std.proofs.Math.Nat.{mul-sub}
use Rattle.std.proofs.Math.Decide.{dec_lt}
use Rattle.std.proofs.Math.IntN.{sub_ℕ}
use Rattle.std.specs.Int.Signed.{shr_z, lt_z, le_z}

pub order : (a b : ℕ) → (a < b) ⊎ (b ≤ a)
order a b = go (dec_lt a b) where
  go : Dec (a < b) → (a < b) ⊎ (b ≤ a)
  go (yes h) = inl h
  go (no h) = inr (omega arith)

pub sub_neg : (a b : ℕ) → a < b → sub_ℕ a b ≡ negsuc (b - suc a)
sub_neg a b h = rw (lt-ltb a b h)

pub sub_pos : (a b : ℕ) → b ≤ a → sub_ℕ a b ≡ pos (a - b)
sub_pos a b h = rw (le-ltb a b h)

pub as_sub : (a : ℕ) → pos a ≡ sub_ℕ a 0
as_sub a = ap pos (let e : a ≡ a - 0 = omega arith in e) ∙ sym (sub_pos a 0 (omega arith))

-- two differences are equal where the sums across are
pub sub_eq : (a b c d : ℕ) → a + d ≡ c + b → sub_ℕ a b ≡ sub_ℕ c d
sub_eq a b c d e =
    ⊎_elim (λ h. sub_neg a b h ∙ ap negsuc (omega arith) ∙ sym (sub_neg c d (omega arith)))
    (λ h. sub_pos a b h ∙ ap pos (omega arith) ∙ sym (sub_pos c d (omega arith)))
    (order a b)

-- sums, products and shifts of differences
pub sub_add : (a b c d : ℕ) → sub_ℕ a b +ℤ sub_ℕ c d ≡ sub_ℕ (a + c) (b + d)
sub_add a b c d =
    ⊎_elim
    (λ h.
    ⊎_elim (λ k. rw (sub_neg a b h, sub_neg c d k) (ap negsuc (omega arith) ∙ sym (sub_neg (a + c) (b + d) (omega arith))))
    (λ k. rw (sub_neg a b h, sub_pos c d k) (sub_eq (c - d) (suc (b - suc a)) (a + c) (b + d) (omega arith)))
    (order c d))
    (λ h.
    ⊎_elim (λ k. rw (sub_pos a b h, sub_neg c d k) (sub_eq (a - b) (suc (d - suc c)) (a + c) (b + d) (omega arith)))
    (λ k. rw (sub_pos a b h, sub_pos c d k) (ap pos (omega arith) ∙ sym (sub_pos (a + c) (b + d) (omega arith))))
    (order c d))
    (order a b)

neg_of : (z : ℕ) → neg_ℤ (pos z) ≡ sub_ℕ 0 z
neg_of zero = refl
neg_of (suc z) = ap negsuc (let e : z ≡ suc z - 1 = omega arith in e) ∙ sym (sub_neg 0 (suc z) (omega arith))

pub sub_mul : (k a b : ℕ) → pos k *ℤ sub_ℕ a b ≡ sub_ℕ (k * a) (k * b)
sub_mul k a b =
    ⊎_elim
    (λ h.
    let l : a ≤ b = omega arith in
    let m : k * a ≤ k * b = mul-le-mul_left k l in
    let s : k * (b - a) ≡ k * b - k * a = mul-sub k b a in
    let e : suc (b - suc a) ≡ b - a = omega arith in
    let w : 0 + k * b ≡ k * a + k * (b - a) = omega arith in
    rw (sub_neg a b h, e) (neg_of (k * (b - a)) ∙ sub_eq 0 (k * (b - a)) (k * a) (k * b) w))
    (λ h. rw (sub_pos a b h) (ap pos (mul-sub k a b) ∙ sym (sub_pos (k * a) (k * b) (mul-le-mul_left k h))))
    (order a b)

pub sub_shr : (a b : ℕ) → shr_z (sub_ℕ a (b * 32)) 32 ≡ sub_ℕ (a / 32) b
sub_shr a b =
    ⊎_elim (λ h. rw (sub_neg a (b * 32) h) (ap negsuc (omega arith) ∙ sym (sub_neg (a / 32) b (omega arith))))
    (λ h. rw (sub_pos a (b * 32) h) (ap pos (omega arith) ∙ sym (sub_pos (a / 32) b (omega arith))))
    (order a (b * 32))

-- orders of differences
pub sub_le : (a b c d : ℕ) → a + d ≤ c + b → le_z (sub_ℕ a b) (sub_ℕ c d) ≡ true
sub_le a b c d e =
    ⊎_elim
    (λ h.
    ⊎_elim (λ k. rw (sub_neg a b h, sub_neg c d k) (le-leb (d - suc c) (b - suc a) (omega arith)))
    (λ k. rw (sub_neg a b h, sub_pos c d k)) (order c d))
    (λ h. rw (sub_pos a b h, sub_pos c d (omega arith)) (le-leb (a - b) (c - d) (omega arith)))
    (order a b)

pub sub_lt : (a b c d : ℕ) → a + d < c + b → lt_z (sub_ℕ a b) (sub_ℕ c d) ≡ true
sub_lt a b c d e =
    ⊎_elim
    (λ h.
    ⊎_elim (λ k. rw (sub_neg a b h, sub_neg c d k) (lt-ltb (d - suc c) (b - suc a) (omega arith)))
    (λ k. rw (sub_neg a b h, sub_pos c d k)) (order c d))
    (λ h. rw (sub_pos a b h, sub_pos c d (omega arith)) (lt-ltb (a - b) (c - d) (omega arith)))
    (order a b)
