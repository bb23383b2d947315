-- The order of 6.5.2 over cells, by halving: the form that the proofs go by, and its laws. Assumes nothing.
-- A cell is named by its row y and its column x; w CTUs stand in a row, and a CTU is halved k times down to a cell.
use Rattle.std.specs.Prelude.{◌≡◌, ℕ, zero, suc, ◌+◌, ◌*◌, ◌/◌, ◌%◌, ◌^◌, ◌≤◌, ◌<◌}
use Rattle.std.proofs.Math.Path.{refl, ◌≡⟨◌⟩◌, ◌∎}
use Rattle.std.proofs.Common.{sym, ap, ap₂, ◌∙◌, pow-suc, zero-add, suc-add, mul-div_cancel, mul-le-mul_right, pow_pos}
use Rattle.std.proofs.Math.Nat.{pow-succ', pow-zero, div-one, div-div-eq-div-mul, div-eq_of_lt-le}
use native.Mathlib.Omega.{arith}
use Rattle.std.proofs.Math.Decide.{dec_lt}
use Rattle.std.proofs.Math.Arith.{digits_div, digits_mod}
use Rattle.h265.specs.Order.{interleaved, z_scan}

-- the cell's number: the CTU's in raster order, then one bit of the row and one of the column at each halving
unfoldable pub cell_no : ℕ → ℕ → ℕ → ℕ → ℕ
cell_no zero w y x = y * w + x
cell_no (suc k) w y x = 4 * cell_no k w (y / 2) (x / 2) + (2 * (y % 2) + x % 2)

-- 6.5.2's inner sum, the row first
abbrev morton : ℕ → ℕ → ℕ → ℕ
morton k y x = interleaved k x y

-- one level of the order: where f grows with the half, and g with the last bit, 4 f + g grows with the number
step_lt : (f g : ℕ → ℕ) {v v' : ℕ} → (g 0 < g 1) × (g 1 ≤ 3) → (v / 2 < v' / 2 → f (v / 2) < f (v' / 2)) → v < v'
    → 4 * f (v / 2) + g (v % 2) < 4 * f (v' / 2) + g (v' % 2)
step_lt f g {v} {v'} two ih h = go (dec_lt (v / 2) (v' / 2)) (dec_lt (v % 2) 1) (dec_lt (v' % 2) 1)
  where
    zero_of : {u : ℕ} → u < 1 → g u ≡ g 0
    zero_of l = ap g (omega arith)

    one_of : (u : ℕ) → (u % 2 < 1 → ⊥) → g (u % 2) ≡ g 1
    one_of u n = ap g (omega arith)

    go : Dec (v / 2 < v' / 2) → Dec (v % 2 < 1) → Dec (v' % 2 < 1) → 4 * f (v / 2) + g (v % 2) < 4 * f (v' / 2) + g (v' % 2)
    go (yes l) (yes z) _ = omega (arith, ih l, zero_of z)
    go (yes l) (no z) _ = omega (arith, ih l, one_of v z)
    go (no n) (yes z) (no z') =
        let e : v / 2 ≡ v' / 2 = omega arith in
        omega (arith, ap f e, zero_of z, one_of v' z')
    go (no n) (yes z) (yes z') = absurd (omega arith)
    go (no n) (no z) _ = absurd (omega arith)

-- in a row the number grows with the column
pub col_lt : (k w y : ℕ) {x x' : ℕ} → x < x' → cell_no k w y x < cell_no k w y x'
unfolding cell_no
col_lt zero w y h = omega arith
col_lt (suc k) w y {x} {x'} h =
    step_lt (cell_no k w (y / 2)) (λ (b : ℕ). 2 * (y % 2) + b) (omega arith) (col_lt k w (y / 2)) h

pub row_lt : (k w x : ℕ) {y y' : ℕ} → 0 < w → y < y' → cell_no k w y x < cell_no k w y' x
unfolding cell_no
row_lt zero w x {y} {y'} pos h = omega (arith, mul-le-mul_right w h)
row_lt (suc k) w x {y} {y'} pos h =
    step_lt (λ (v : ℕ). cell_no k w v (x / 2)) (λ (b : ℕ). 2 * b + x % 2) (omega arith) (row_lt k w (x / 2) pos) h

-- powers as omega takes them
pub dbl : (a k : ℕ) → a * 2 ^ suc k ≡ 2 * (a * 2 ^ k)
dbl a k = rw (pow-suc 2 k) (omega arith)

pub quad : (a k : ℕ) → a * 4 ^ suc k ≡ 4 * (a * 4 ^ k)
quad a k = rw (pow-suc 4 k) (omega arith)

-- the numbers of a by w CTUs are below their count of cells
pub cell_bound : (k a w : ℕ) {y x : ℕ} → y < a * 2 ^ k → x < w * 2 ^ k → cell_no k w y x < a * w * 4 ^ k
unfolding cell_no
cell_bound zero a w {y} {x} hy hx =
    let l : suc y ≤ a = omega arith in
    omega (arith, mul-le-mul_right w l)
cell_bound (suc k) a w {y} {x} hy hx =
    let ih = cell_bound k a w {y = y / 2} {x = x / 2} (omega (arith, dbl a k)) (omega (arith, dbl w k)) in
    omega (arith, quad (a * w) k, ih)

-- distinct cells of the picture have distinct numbers
pub cell_inj : (k w : ℕ) {y x y' x' : ℕ} → x < w * 2 ^ k → x' < w * 2 ^ k → cell_no k w y x ≡ cell_no k w y' x' → (y ≡ y') × (x ≡ x')
unfolding cell_no
cell_inj zero w {y} {x} {y'} {x'} hx hx' e =
    let l : x < w = omega arith in
    let l' : x' < w = omega arith in
    (sym (digits_div y l) ∙ ap (λ (v : ℕ). v / w) e ∙ digits_div y' l', sym (digits_mod y l) ∙ ap (λ (v : ℕ). v % w) e ∙ digits_mod y' l')
cell_inj (suc k) w {y} {x} {y'} {x'} hx hx' e =
    let ih = cell_inj k w {y = y / 2} {x = x / 2} {y' = y' / 2} {x' = x' / 2} (omega (arith, dbl w k)) (omega (arith, dbl w k))
    (omega arith) in
    (omega (arith, ih.0), omega (arith, ih.1))

half_quot : (k w y x : ℕ) → cell_no (suc k) w y x / 4 ≡ cell_no k w (y / 2) (x / 2)
unfolding cell_no
half_quot k w y x = omega arith

-- a block of 2^j by 2^j cells at a multiple of its side has the run of numbers that the block's own number gives, 4^j times
pub cell_quot : (j k w y x : ℕ) → cell_no (j + k) w y x / 4 ^ j ≡ cell_no k w (y / 2 ^ j) (x / 2 ^ j)
cell_quot zero k w y x = simp (zero-add, pow-zero, div-one)
cell_quot (suc j) k w y x =
    cell_no (suc j + k) w y x / 4 ^ suc j ≡⟨ (simp (suc-add, pow-succ', ← div-div-eq-div-mul)) ⟩
    cell_no (suc (j + k)) w y x / 4 / 4 ^ j ≡⟨ ap (λ (v : ℕ). v / 4 ^ j) (half_quot (j + k) w y x) ⟩
    cell_no (j + k) w (y / 2) (x / 2) / 4 ^ j ≡⟨ cell_quot j k w (y / 2) (x / 2) ⟩
    cell_no k w (y / 2 / 2 ^ j) (x / 2 / 2 ^ j) ≡⟨ (simp (pow-succ', ← div-div-eq-div-mul)) ⟩
    cell_no k w (y / 2 ^ suc j) (x / 2 ^ suc j) ∎

pub half_half : (k v : ℕ) → v / 2 / 2 ^ k ≡ v / 2 ^ suc k
half_half k v = simp (pow-succ', ← div-div-eq-div-mul)

bit_quad : (k v : ℕ) → v / 2 ^ suc k % 2 * 4 ^ suc k ≡ 4 * (v / 2 / 2 ^ k % 2 * 4 ^ k)
bit_quad k v = quad (v / 2 ^ suc k % 2) k ∙ ap (λ (u : ℕ). 4 * (u % 2 * 4 ^ k)) (sym (half_half k v))

pub morton_half : (k y x : ℕ) → morton (suc k) y x ≡ 4 * morton k (y / 2) (x / 2) + (2 * (y % 2) + x % 2)
unfolding interleaved
morton_half zero y x = omega arith
morton_half (suc k) y x = omega (arith, morton_half k y x, bit_quad k x, bit_quad k y)

-- the halving form is the form of 6.5.2
pub cell_zs : (k w y x : ℕ) → cell_no k w y x ≡ z_scan k w x y
unfolding cell_no z_scan
cell_zs zero w y x = unfold interleaved in simp div-one (omega arith)
cell_zs (suc k) w y x =
    rw (cell_zs k w (y / 2) (x / 2), z_scan, half_half k y, half_half k x)
    (omega (arith, morton_half k y x, quad (y / 2 ^ suc k * w + x / 2 ^ suc k) k))

pub morton_lt : (j y x : ℕ) → morton j y x < 4 ^ j
morton_lt zero y x = unfold interleaved in omega arith
morton_lt (suc j) y x = omega (arith, morton_half j y x, morton_lt j (y / 2) (x / 2), quad 1 j)

half_cell : (k w y x : ℕ) → cell_no (suc k) w y x ≡ 4 * cell_no k w (y / 2) (x / 2) + (2 * (y % 2) + x % 2)
unfolding cell_no
half_cell k w y x = refl

pub cell_split : (j k w y x : ℕ) → cell_no (j + k) w y x ≡ cell_no k w (y / 2 ^ j) (x / 2 ^ j) * 4 ^ j + morton j y x
cell_split zero k w y x = unfold interleaved in simp (zero-add, div-one) (omega arith)
cell_split (suc j) k w y x =
    rw (suc-add j k, half_cell (j + k) w y x, cell_split j k w (y / 2) (x / 2), half_half j y, half_half j x)
    (omega (arith, morton_half j y x, quad (cell_no k w (y / 2 ^ suc j) (x / 2 ^ suc j)) j))

-- the first cell's number is the least, and no bit is left
pub morton_zero : (j Y X : ℕ) → morton j (Y * 2 ^ j) (X * 2 ^ j) ≡ 0
morton_zero zero Y X = unfold interleaved in refl
morton_zero (suc j) Y X =
    let a : Y * 2 ^ suc j / 2 ≡ Y * 2 ^ j = omega (arith, dbl Y j) in
    let b : X * 2 ^ suc j / 2 ≡ X * 2 ^ j = omega (arith, dbl X j) in
    omega (arith, morton_half j (Y * 2 ^ suc j) (X * 2 ^ suc j), ap₂ (morton j) a b ∙ morton_zero j Y X, dbl Y j, dbl X j)

module _ (j k w Y X y x : ℕ) where
  abbrev first : ℕ
  first = cell_no (j + k) w (Y * 2 ^ j) (X * 2 ^ j)

  first_is : first ≡ cell_no k w Y X * 4 ^ j
  first_is =
      let s = cell_split j k w (Y * 2 ^ j) (X * 2 ^ j) in
      let a = mul-div_cancel Y {n = 2 ^ j} (pow_pos j) in
      let b = mul-div_cancel X {n = 2 ^ j} (pow_pos j) in
      omega (arith, s, morton_zero j Y X, ap (λ (v : ℕ). v * 4 ^ j) (ap₂ (cell_no k w) a b))

  pub run_in : y / 2 ^ j ≡ Y → x / 2 ^ j ≡ X → (first ≤ cell_no (j + k) w y x) × (cell_no (j + k) w y x < first + 4 ^ j)
  run_in p q =
      omega (arith, first_is, cell_split j k w y x, ap (λ (v : ℕ). v * 4 ^ j) (ap₂ (cell_no k w) p q), morton_lt j y x)

  pub run_only : X < w * 2 ^ k → x / 2 ^ j < w * 2 ^ k → first ≤ cell_no (j + k) w y x → cell_no (j + k) w y x < first + 4 ^ j
      → (y / 2 ^ j ≡ Y) × (x / 2 ^ j ≡ X)
  run_only hX hx low high =
      let f = first_is in
      let e = div-eq_of_lt-le {k = cell_no k w Y X} (4 ^ j) {m = cell_no (j + k) w y x} (omega arith) (omega arith) in
      cell_inj k w hx hX (sym (cell_quot j k w y x) ∙ e)
