-- Planar and DC are means of their neighbours, DC with its edge too: they lie between any bounds of them, and entries from 2n on
-- reach no sample. Rests on the standard's clauses.
use Rattle.std.specs.Prelude.{ℕ, zero, suc, ◌+◌, ◌-◌, ◌*◌, ◌/◌, ◌≤◌, ◌<◌, ◌≡◌, refl, Bool, true, false, cond, ◌&&◌, ltb, eqb}
use Rattle.std.proofs.Common.{sym, ap, ◌∙◌, mul-le-mul_left, add-mul, div-mul-le_self, le-div_iff_mul-le, le_trans, le_refl, zero-mul, suc-mul, arith}
use Rattle.std.proofs.Math.Nat.{mul-add-div, div-eq_of_lt}
use Rattle.domain.specs.Facts.{Size, size_small}
use Rattle.h265.specs.Notation.{Neighbours}
use Rattle.h265.specs.Planar.{planar}
use Rattle.h265.specs.Dc.{sum_to, dc_val, dc}
use Rattle.samples.specs.taps.Taps.{blended, cornered}
use Rattle.predict.specs.planar_dc.Flat.{planar_sample}
use Rattle.predict.specs.planar_dc.Text.{planar_mix, dc_quotient}
use Rattle.h265.specs.Mean.{Under, even, Mean, Agree, between, alone}

-- a total weight w of one value
weighed : (w v h : ℕ) → h < w → (w * v + h) / w ≡ v
weighed w v h l = mul-add-div {m = w} (omega arith) v h ∙ ap (λ (k : ℕ). v + k) (div-eq_of_lt l) ∙ (let e : v + 0 ≡ v = omega arith in e)

fewer : (w x y : ℕ) → 0 < w → x ≤ y → x / w ≤ y / w
fewer w x y p h = (le-div_iff_mul-le p).1 (le_trans (div-mul-le_self x w) h)

-- n - 1 - x and x + 1 together are n, of which twice makes 2n
parts : (n x v : ℕ) → x < n → (n - 1 - x) * v + (x + 1) * v ≡ n * v
parts n x v h = sym (ap (λ (k : ℕ). k * v) (let e : n ≡ n - 1 - x + (x + 1) = omega arith in e) ∙ add-mul (n - 1 - x) (x + 1) v)

twice : (n v : ℕ) → 2 * n * v ≡ n * v + n * v
twice n v = ap (λ (k : ℕ). k * v) (let e : 2 * n ≡ n + n = omega arith in e) ∙ add-mul n n v

mix_rises : (n y x l tr t bl l' tr' t' bl' : ℕ) → 0 < n → l ≤ l' → tr ≤ tr' → t ≤ t' → bl ≤ bl'
    → planar_sample n y x l tr t bl ≤ planar_sample n y x l' tr' t' bl'
unfolding planar_sample
mix_rises n y x l tr t bl l' tr' t' bl' h p q r s =
    let i = mul-le-mul_left (n - 1 - x) p in
    let j = mul-le-mul_left (x + 1) q in
    let k = mul-le-mul_left (n - 1 - y) r in
    let m = mul-le-mul_left (y + 1) s in
    fewer (2 * n) _ _ (omega arith) (omega arith)

mix_flat : (n y x v : ℕ) → x < n → y < n → planar_sample n y x v v v v ≡ v
unfolding planar_sample
mix_flat n y x v hx hy =
    let p = parts n x v hx in
    let q = parts n y v hy in
    let t = twice n v in
    ap (λ (k : ℕ). k / (2 * n)) (let e : (n - 1 - x) * v + (x + 1) * v + ((n - 1 - y) * v + (y + 1) * v) + n
    ≡ 2 * n * v + n = omega arith in e)
    ∙ weighed (2 * n) v n (omega arith)

pub mean_planar : (n x y : ℕ) → Size n → x < n → y < n → Mean n (λ (nb : Neighbours). planar n nb x y)
mean_planar n x y s hx hy = record {
  rises = λ a b u.
      rw (← planar_mix n s a y x, ← planar_mix n s b y x)
      (mix_rises n y x _ _ _ _ _ _ _ _ (omega arith) (u.left y (omega arith)) (u.above n (omega arith)) (u.above x (omega arith))
      (u.left n (omega arith)));
  flat = λ v. rw (← planar_mix n s (even v) y x) (mix_flat n y x v hx hy);
}

sum_rises : (f g : ℕ → ℕ) (k : ℕ) → ((i : ℕ) → i < k → f i ≤ g i) → sum_to f k ≤ sum_to g k
unfolding sum_to
sum_rises f g zero h = le_refl 0
sum_rises f g (suc k) h = let p = sum_rises f g k (λ i l. h i (omega arith)) in let q = h k (omega arith) in omega arith

sum_flat : (v k : ℕ) → sum_to (λ (i : ℕ). v) k ≡ k * v
unfolding sum_to
sum_flat v zero = sym (zero-mul v)
sum_flat v (suc k) = rw (suc-mul, sum_flat v k)

-- the DC value
mean_value : (n : ℕ) → Size n → Mean n (dc_val n)
mean_value n s = record {
  rises = λ a b u.
      let h = size_small n s in
      let p = sum_rises a.above b.above n (λ i l. u.above i (omega arith)) in
      let q = sum_rises a.left b.left n (λ i l. u.left i (omega arith)) in
      rw (← dc_quotient n s a _ refl, ← dc_quotient n s b _ refl) (fewer (2 * n) _ _ (omega arith) (omega arith));
  flat = λ v.
      let h = size_small n s in
      let t = twice n v in
      let p = sum_flat v n in
      rw (← dc_quotient n s (even v) _ refl)
      (ap (λ (k : ℕ). k / (2 * n)) (let e : sum_to (λ (i : ℕ). v) n + sum_to (λ (i : ℕ). v) n + n ≡ 2 * n * v + n = omega arith in e)
      ∙ weighed (2 * n) v n (omega arith));
}

-- the edge, by where a sample lies
module _ (e i j : Bool) where
  abbrev mixed : ℕ → ℕ → ℕ → ℕ → ℕ → ℕ
  mixed v l a ly ax = cond e (cond i (cond j (cornered l a v) (blended ly v)) (cond j (blended ax v) v)) v

mixed_rises : (e i j : Bool) (v l a ly ax v' l' a' ly' ax' : ℕ) → v ≤ v' → l ≤ l' → a ≤ a' → ly ≤ ly' → ax ≤ ax'
    → mixed e i j v l a ly ax ≤ mixed e i j v' l' a' ly' ax'
mixed_rises false i j v l a ly ax v' l' a' ly' ax' p q r s t = p
mixed_rises true false false v l a ly ax v' l' a' ly' ax' p q r s t = p
mixed_rises true false true v l a ly ax v' l' a' ly' ax' p q r s t = omega arith
mixed_rises true true false v l a ly ax v' l' a' ly' ax' p q r s t = omega arith
mixed_rises true true true v l a ly ax v' l' a' ly' ax' p q r s t = omega arith

mixed_flat : (e i j : Bool) (v : ℕ) → mixed e i j v v v v v ≡ v
mixed_flat false i j v = refl
mixed_flat true false false v = refl
mixed_flat true false true v = omega arith
mixed_flat true true false v = omega arith
mixed_flat true true true v = omega arith

pub mean_dc : (edge : Bool) (n x y : ℕ) → Size n → x < n → y < n → Mean n (λ (nb : Neighbours). dc edge n nb x y)
unfolding dc
mean_dc edge n x y s hx hy = record {
  rises = λ a b u.
      mixed_rises (edge && ltb n 32) (eqb x 0) (eqb y 0) (dc_val n a) (a.left 0) (a.above 0) (a.left y) (a.above x) (dc_val n b)
      (b.left 0) (b.above 0) (b.left y) (b.above x)
      ((mean_value n s).rises a b u) (u.left 0 (omega arith)) (u.above 0 (omega arith)) (u.left y (omega arith))
      (u.above x (omega arith));
  flat = λ v. rw ((mean_value n s).flat v) (mixed_flat (edge && ltb n 32) (eqb x 0) (eqb y 0) v);
}

-- entries from 2n on reach no sample, and the corner reaches none
module _ (n x y : ℕ) (s : Size n) (hx : x < n) (hy : y < n) (a b : Neighbours) (above : (i : ℕ) → i < 2 * n → a.above i ≡ b.above i)
    (left : (i : ℕ) → i < 2 * n → a.left i ≡ b.left i) where
  abbrev b' : Neighbours
  b' = record { corner = a.corner; above = b.above; left = b.left }

  agree : Agree n a b'
  agree = record { corner = refl; above = above; left = left }

  pub planar_alone : planar n a x y ≡ planar n b x y
  unfolding planar
  planar_alone = alone n (λ (nb : Neighbours). planar n nb x y) (mean_planar n x y s hx hy) a b' agree

  pub dc_alone : (edge : Bool) → dc edge n a x y ≡ dc edge n b x y
  unfolding dc dc_val
  dc_alone edge = alone n (λ (nb : Neighbours). dc edge n nb x y) (mean_dc edge n x y s hx hy) a b' agree

-- every sample lies between any bounds of the corner and entries 0 .. 2n - 1
module _ (n x y : ℕ) (s : Size n) (hx : x < n) (hy : y < n) (lo hi : ℕ) (nb : Neighbours) (low : Under n (even lo) nb)
    (high : Under n nb (even hi)) where
  pub planar_between : (lo ≤ planar n nb x y) × (planar n nb x y ≤ hi)
  planar_between = between n (λ (m : Neighbours). planar n m x y) (mean_planar n x y s hx hy) lo hi nb low high

  pub dc_between : (edge : Bool) → (lo ≤ dc edge n nb x y) × (dc edge n nb x y ≤ hi)
  dc_between edge = between n (λ (m : Neighbours). dc edge n m x y) (mean_dc edge n x y s hx hy) lo hi nb low high
