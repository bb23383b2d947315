-- How far an angle reaches among the references, and what each kind of reference is. Assumes nothing.
use Rattle.std.specs.Prelude.{◌≡◌, refl, List, ℕ, zero, suc, ◌+◌, ◌-◌, ◌*◌, ◌/◌, ◌%◌, ◌≤◌, ◌<◌, length, get_or}
use Rattle.std.proofs.Common.{sym, ap, ◌∙◌, ⊎_elim, mul-add, mul_assoc, mul-le-mul_left, mul-le-mul_right, zero-add, arith}
use borrow.Author.Tests.{lt-ltb, le-ltb, le-leb, lt-leb, eq-eqb, ne_eqb}
use Rattle.laws.specs.Fill.{fill, run, rows}
use Rattle.laws.specs.FillLaws.{run_same, run_at, fill_at}
use Rattle.laws.specs.Diff.{order}
use Rattle.domain.specs.Facts.{Size, at_size}
use Rattle.h265.specs.Notation.{Neighbours}
use Rattle.samples.specs.taps.Taps.{interp_of}
use Rattle.predict.specs.angular.Unsigned.{side_of, ref_at}
use Rattle.predict.specs.angles.Starts.{line_start, fraction_of, first_of}
use Rattle.predict.specs.angular.Lines.{reach_of}
use Rattle.predict.specs.angular.Grid.{column}

-- a row starts at an entry
reach : (b e r : ℕ) → 32 ≤ b + e → r < 32 → r + 1 ≤ b + (r + 1) * e / 32
reach b e r h l =
    let x : (r + 1) * 32 ≤ (r + 1) * (b + e) = mul-le-mul_left (r + 1) h in
    let y : (r + 1) * (b + e) ≡ (r + 1) * b + (r + 1) * e = mul-add (r + 1) b e in
    let z : (r + 1) * b ≤ 32 * b = mul-le-mul_right b (let q : r + 1 ≤ 32 = omega arith in q) in
    omega arith

-- how far a block reads: n references where the angle is negative, never more than 2n
reach_low : (e n : ℕ) → e < 32 → reach_of e n ≡ n
unfolding reach_of
reach_low e n h = rw (lt-leb 32 e h)

reach_high : (e n : ℕ) → 32 ≤ e → reach_of e n ≡ 2 * n
unfolding reach_of
reach_high e n h = rw (le-leb 32 e h)

pub within_low : (b e n r : ℕ) → e < 32 → b + n ≤ r → b + reach_of e n ≤ r
within_low b e n r h l = omega (arith, reach_low e n h)

pub within : (b e n r : ℕ) → b + 2 * n ≤ r → b + reach_of e n ≤ r
within b e n r l = ⊎_elim (λ h. omega (arith, reach_low e n h)) (λ h. omega (arith, reach_high e n h)) (order e 32)

-- a row's references stay within that, the one more that is mixed in too where the angle is below 32
module _ (b e r n : ℕ) (base : 32 ≤ b + e) (few : n ≤ 32) (l : r < n) where
  starts : r + 1 ≤ b + (r + 1) * e / 32
  starts = reach b e r base (omega arith)

  low : e < 32 → line_start b e r + n + 1 ≤ b + reach_of e n
  low h =
      let x : (r + 1) * e ≤ (r + 1) * 31 = mul-le-mul_left (r + 1) (omega arith) in
      omega (arith, starts, reach_low e n h)

  pub copy_within : e ≤ 64 → line_start b e r + n ≤ b + reach_of e n
  copy_within t =
      let x : (r + 1) * e ≤ (r + 1) * 64 = mul-le-mul_left (r + 1) t in
      ⊎_elim (λ h. omega (arith, low h)) (λ h. omega (arith, starts, reach_high e n h)) (order e 32)

  pub mix_within : e < 64 → line_start b e r + n + 1 ≤ b + reach_of e n
  mix_within t =
      let x : (r + 1) * e ≤ (r + 1) * 63 = mul-le-mul_left (r + 1) (omega arith) in
      ⊎_elim (λ h. low h) (λ h. omega (arith, starts, reach_high e n h)) (order e 32)

-- an angle of whole references has no fraction
pub no_fraction : (e r : ℕ) → e % 32 ≡ 0 → fraction_of e r ≡ 0
no_fraction e r h =
    let q : e / 32 * 32 ≡ e = omega arith in
    let w : (r + 1) * e ≡ (r + 1) * (e / 32) * 32 = ap (λ (k : ℕ). (r + 1) * k) (sym q) ∙ sym (mul_assoc (r + 1) (e / 32) 32) in
    omega arith

pub whole : (x y : ℕ) → x ≡ interp_of 0 x y
unfolding interp_of
whole x y = omega arith

-- a row of copies
pub copied : (refs : List ℕ) (s f a n : ℕ) (d : List ℕ) → f ≡ 0 → run (λ (c : ℕ). get_or refs (s + c) 0) a n d
    ≡ run (λ (c : ℕ). interp_of f (get_or refs (s + c) 0) (get_or refs (s + c + 1) 0)) a n d
copied refs s f a n d e = rw e (run_same _ _ a n d (λ j l. whole (get_or refs (s + j) 0) (get_or refs (s + j + 1) 0)))

-- the last arm of a match of sizes
pub last_edge : (n : ℕ) → Size n → n < 32 → (n ≡ 4 → ⊥) → (n ≡ 8 → ⊥) → n ≡ 16
last_edge n s l a b = ⊎_elim (λ e. absurd (a e)) (λ s. ⊎_elim (λ e. absurd (b e))
    (λ s. ⊎_elim (λ e. e) (λ e. absurd (let q : n ≡ 32 = e in omega arith)) s) s) s

-- the first reference of a negative angle is the corner or before it
pub first_reach : (e n : ℕ) → e < 32 → Size n → first_of e n ≤ 64
first_reach e n h s = at_size (λ (m : ℕ). first_of e m ≤ 64) (omega arith) (omega arith) (omega arith) (omega arith) n s

-- the side row is entered less far for later references
pub side_falls : (inv i j : ℕ) → i ≤ j → side_of inv j ≤ side_of inv i
side_falls inv i j h =
    let q : 64 - j ≤ 64 - i = omega arith in
    let w : (64 - j) * inv ≤ (64 - i) * inv = mul-le-mul_right inv q in
    omega arith

-- the three kinds of reference
module _ (nb : Neighbours) (inv j : ℕ) where
  pub ref_main : 64 < j → nb.above (j - 65) ≡ ref_at nb inv j
  unfolding ref_at
  ref_main h = rw (lt-ltb 64 j h)

  pub ref_corner : j ≤ 64 → side_of inv j ≡ 0 → nb.corner ≡ ref_at nb inv j
  unfolding ref_at
  ref_corner h e = rw (le-ltb 64 j h, eq-eqb (side_of inv j) 0 e)

  pub ref_side : j ≤ 64 → (side_of inv j ≡ 0 → ⊥) → nb.left (side_of inv j - 1) ≡ ref_at nb inv j
  unfolding ref_at
  ref_side h z = rw (le-ltb 64 j h, ne_eqb (side_of inv j) 0 z)

-- by way of another list: a row, a first row, a column, a block
pub by_way : (g : ℕ → ℕ) (t z d : List ℕ) (a n : ℕ) → n ≤ length z → t ≡ run g 0 n z → run (λ (c : ℕ). get_or t (0 + c) 0) a n d ≡ run g a n d
by_way g t z d a n l p = rw p (run_same _ _ a n d (λ j h. run_at g 0 n z j 0 h (omega arith)))

run_fill : (g : ℕ → ℕ) (n : ℕ) (d : List ℕ) → run g 0 n d ≡ fill g n d
unfolding run fill
run_fill g zero d = refl
run_fill g (suc n) d = rw (zero-add n, run_fill g n d)

pub fill_by_way : (g : ℕ → ℕ) (t z d : List ℕ) (n : ℕ) → n ≤ length z → t ≡ fill g n z → run (λ (c : ℕ). get_or t (0 + c) 0) 0 n d
    ≡ fill g n d
fill_by_way g t z d n l p =
    rw p (run_same _ g 0 n d (λ j h. ap (λ (i : ℕ). get_or (fill g n z) i 0) (zero-add j) ∙ fill_at g n z j 0 h (omega arith)))
    ∙ run_fill g n d

column_same : (f g : ℕ → ℕ) (a n k : ℕ) (d : List ℕ) → ((r : ℕ) → r < k → f r ≡ g r) → column f a n k d ≡ column g a n k d
unfolding column
column_same f g a n zero d h = refl
column_same f g a n (suc k) d h = rw (column_same f g a n k d (λ r l. h r (omega arith)), h k (omega arith))

pub column_by_way : (g : ℕ → ℕ) (t z d : List ℕ) (a n : ℕ) → n ≤ length z → t ≡ run g 0 n z → column (λ (r : ℕ). get_or t r 0) a n n d
    ≡ column g a n n d
column_by_way g t z d a n l p = rw p (column_same _ _ a n n d
    (λ r h. ap (λ (i : ℕ). get_or (run g 0 n z) i 0) (sym (zero-add r)) ∙ run_at g 0 n z r 0 h (omega arith)))

pub column_by_fill : (g : ℕ → ℕ) (t z d : List ℕ) (a n : ℕ) → n ≤ length z → t ≡ fill g n z → column (λ (r : ℕ). get_or t r 0) a n n d
    ≡ column g a n n d
column_by_fill g t z d a n l p = column_by_way g t z d a n l (p ∙ sym (run_fill g n z))

pub block_by_way : (g : ℕ → ℕ → ℕ) (t z d : List ℕ) (n : ℕ) → n * n ≤ length z → t ≡ rows g n n z
    → run (λ (c : ℕ). get_or t (0 + c) 0) 0 (n * n) d ≡ rows g n n d
unfolding rows
block_by_way g t z d n l p = fill_by_way _ t z d (n * n) l p
