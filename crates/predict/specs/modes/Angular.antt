-- Angular prediction without its edge is a mean, and with or without it reads no entry from 2n on. Assumes nothing.
use Rattle.std.specs.Prelude.{◌≡◌, refl, Bool, true, ◌&&◌, ℕ, ◌+◌, ◌-◌, ◌*◌, ◌≤◌, ◌<◌, leb, ltb, eqb, get_or}
use Rattle.std.proofs.Math.Path.{sym}
use Rattle.std.proofs.Common.{ap, ◌∙◌, add-mul, le_antisymm, arith}
use Rattle.std.proofs.Math.Logic.{⊎_elim}
use Rattle.std.proofs.Math.Bool.{false, cond}
use Rattle.std.proofs.Math.Nat.{mul-le-mul_left}
use borrow.Author.Tests.{lt-ltb, le-ltb, eq-eqb, ne_eqb}
use Rattle.domain.specs.Facts.{Size, size_small}
use Rattle.h265.specs.Notation.{Neighbours}
use Rattle.h265.specs.Angular.{angular}
use Rattle.samples.specs.taps.Taps.{interp_of}
use Rattle.predict.specs.angular.Unsigned.{angles, inverses, ref_start, side_of, ref_at, vertical_at, mirror, angular_at}
use Rattle.predict.specs.angles.Starts.{fraction_of, first_of}
use Rattle.predict.specs.angular.Lines.{first_le}
use Rattle.predict.specs.angular.Tables.{side_reach}
use Rattle.predict.specs.angular.Reach.{side_falls}
use Rattle.h265.specs.Mean.{Under, Agree, even, Mean, agree_under}
use Rattle.laws.specs.Diff.{order}
use Rattle.predict.specs.angular.Bridge.{angular_same, angle_most}

-- a weighted pair of references
interp_rises : (f x y x' y' : ℕ) → x ≤ x' → (0 < f → y ≤ y') → interp_of f x y ≤ interp_of f x' y'
unfolding interp_of
interp_rises f x y x' y' h k =
    let p : (32 - f) * x ≤ (32 - f) * x' = mul-le-mul_left (32 - f) h in
    ⊎_elim (λ l. let q : f * y ≤ f * y' = mul-le-mul_left f (k l) in omega arith) (λ l. let z : f ≡ 0 = omega arith in rw z (omega arith))
    (order 0 f)

interp_flat : (f v : ℕ) → f < 32 → interp_of f v v ≡ v
unfolding interp_of
interp_flat f v h =
    let p : 32 * v ≡ (32 - f) * v + f * v = ap (λ (k : ℕ). k * v) (let e : 32 ≡ 32 - f + f = omega arith in e) ∙ add-mul (32 - f) f v in
    omega arith

ref_flat : (v inv j : ℕ) → ref_at (even v) inv j ≡ v
unfolding ref_at
ref_flat v inv j = one (ltb 64 j) (eqb (side_of inv j) 0) where
  one : (b c : Bool) → cond b v (cond c v v) ≡ v
  one true c = refl
  one false true = refl
  one false false = refl

sample_flat : (v e inv r c : ℕ) → vertical_at (even v) e inv r c ≡ v
unfolding vertical_at
sample_flat v e inv r c = rw (ref_flat v inv (ref_start e r + c), ref_flat v inv (ref_start e r + c + 1))
    (interp_flat (fraction_of e r) v (omega arith))

module _ (n : ℕ) (p q : Neighbours) (u : Under n p q) where
  ref_rises : (inv j : ℕ) → j ≤ 64 + 2 * n → (j ≤ 64 → side_of inv j ≤ 2 * n) → ref_at p inv j ≤ ref_at q inv j
  unfolding ref_at
  ref_rises inv j h k =
      ⊎_elim (λ l. rw (lt-ltb 64 j l) (u.above (j - 65) (omega arith)))
      (λ l.
      ⊎_elim (λ z. let b = k l in rw (le-ltb 64 j l, ne_eqb (side_of inv j) 0 (λ e. let q : side_of inv j ≡ 0 = e in omega arith))
      (u.left (side_of inv j - 1) (omega arith)))
      (λ z. rw (le-ltb 64 j l, eq-eqb (side_of inv j) 0 (omega arith)) u.corner)
      (order 0 (side_of inv j)))
      (order 64 j)

  sample_rises : (e inv r k : ℕ) → e ≤ 64 → r < n → k < n → n ≤ 32 → (e < 32 → side_of inv (first_of e n) ≤ 2 * n)
      → vertical_at p e inv r k ≤ vertical_at q e inv r k
  unfolding vertical_at
  sample_rises e inv r k t hr hk sm sd =
      let y : (r + 1) * e ≤ (r + 1) * 64 = mul-le-mul_left (r + 1) t in
      interp_rises (fraction_of e r) _ _ _ _ (ref_rises inv (ref_start e r + k) (omega arith) (λ l. side (ref_start e r + k) (omega arith) l))
      (λ f. ref_rises inv (ref_start e r + k + 1) (omega arith) (λ l. side (ref_start e r + k + 1) (omega arith) l))
    where
      side : (j : ℕ) → ref_start e r ≤ j → j ≤ 64 → side_of inv j ≤ 2 * n
      side j f l =
          ⊎_elim (λ b. let q = first_le e n r b hr in let z = side_falls inv (first_of e n) j (omega arith) in let o = sd b in omega arith)
          (λ b. let y : (r + 1) * 32 ≤ (r + 1) * e = mul-le-mul_left (r + 1) b in absurd (omega arith))
          (order e 32)

off : (b c : Bool) → b && (c && false) ≡ false
off false c = refl
off true false = refl
off true true = refl

module _ (n mode : ℕ) (s : Size n) (h : mode < 35) where
  abbrev sample : Neighbours → ℕ → ℕ → ℕ
  sample nb r c = vertical_at nb (get_or angles mode 0) (get_or inverses mode 0) r c

  rises : (p q : Neighbours) → Under n p q → (r c : ℕ) → r < n → c < n → sample p r c ≤ sample q r c
  rises p q u r c hr hc = sample_rises n p q u _ _ r c (angle_most mode h) hr hc (size_small n s).1 (λ z. side_reach mode n h s)

  mirrored : (p q : Neighbours) → Under n p q → Under n (mirror p) (mirror q)
  mirrored p q u = record { corner = u.corner; above = u.left; left = u.above }

  -- with the edge off a sample is a mean of the neighbours
  pub mean_angular : (bits x y : ℕ) → x < n → y < n → Mean n (λ (nb : Neighbours). angular bits false n mode nb x y)
  unfolding angular_at
  mean_angular bits x y hx hy = record {
    rises = λ p q u. rw (same p, same q) (two p q u (leb 18 mode));
    flat = λ v. rw (same (even v)) (level v (leb 18 mode));
  }
    where
      same : (nb : Neighbours) → angular bits false n mode nb x y ≡ cond (leb 18 mode) (sample nb y x) (sample (mirror nb) x y)
      same nb = angular_same bits n mode false nb x y (size_small n s).1 h hx hy
          ∙ rw (off (eqb mode 26) (eqb x 0), off (eqb mode 10) (eqb y 0))

      two : (p q : Neighbours) → Under n p q → (b : Bool)
          → cond b (sample p y x) (sample (mirror p) x y) ≤ cond b (sample q y x) (sample (mirror q) x y)
      two p q u true = rises p q u y x hy hx
      two p q u false = rises (mirror p) (mirror q) (mirrored p q u) x y hx hy

      level : (v : ℕ) (b : Bool) → cond b (sample (even v) y x) (sample (mirror (even v)) x y) ≡ v
      level v true = sample_flat v _ _ y x
      level v false = sample_flat v _ _ x y

  -- with the edge on or off, neighbours that agree on the corner and entries 0 .. 2n - 1 give the same sample
  pub angular_alone : (bits : ℕ) (edge : Bool) (x y : ℕ) → x < n → y < n → (p q : Neighbours) → Agree n p q
      → angular bits edge n mode p x y ≡ angular bits edge n mode q x y
  unfolding angular_at
  angular_alone bits edge x y hx hy p q a =
      angular_same bits n mode edge p x y (size_small n s).1 h hx hy ∙ one
      ∙ sym (angular_same bits n mode edge q x y (size_small n s).1 h hx hy)
    where
      u : Under n p q × Under n q p
      u = agree_under n p q a

      one : angular_at bits edge n mode p x y ≡ angular_at bits edge n mode q x y
      one =
          let straight : sample p y x ≡ sample q y x = le_antisymm (rises p q u.0 y x hy hx) (rises q p u.1 y x hy hx) in
          let across : sample (mirror p) x y ≡ sample (mirror q) x y = le_antisymm
          (rises (mirror p) (mirror q) (mirrored p q u.0) x y hx hy) (rises (mirror q) (mirror p) (mirrored q p u.1) x y hx hy) in
          rw (
            straight,
            across,
            a.corner,
            a.above 0 (omega arith),
            a.left y (omega arith),
            a.left 0 (omega arith),
            a.above x
                (omega arith),
          )
