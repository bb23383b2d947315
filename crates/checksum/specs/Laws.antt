-- The checksum as one sum modulo two to the 32: what a sample and a row add, rows that go on where others ended. Assumes nothing.
use Rattle.std.specs.Prelude.{◌≡◌, ℕ, zero, suc, ◌+◌, ◌-◌, ◌/◌, ◌%◌, ◌^◌, ◌<◌, ◌≤◌, Bool, true, false, cond, bit_xor, nat_lt, refl}
use Rattle.std.proofs.Math.Path.{sym, ap}
use Rattle.std.proofs.Common.{◌∙◌, mod-lt, mod-eq_of_lt, add_assoc, add-zero, add-suc}
use Rattle.std.proofs.Math.Nat.{mod-add-mod}
use native.Mathlib.Omega.{arith}
use Rattle.std.proofs.lemmas.Nat.{xor_lt}
use Rattle.laws.specs.Sum.{total}
use Rattle.h265.specs.Checksum.{xor_mask, sum_row, sum_of_rows}

-- what a sample adds under a mask; `wide` where it has a high byte
abbrev pub sample_adds : Bool → ℕ → ℕ → ℕ
sample_adds wide mask v = cond wide (bit_xor (v % 256) mask + bit_xor (v / 256) mask) (bit_xor (v % 256) mask)

-- what column x of row y adds
abbrev pub column_adds : Bool → (ℕ → ℕ) → ℕ → ℕ → ℕ
column_adds wide row y x = sample_adds wide (xor_mask x y) (row x)

twice : (sum a b m : ℕ) → ((sum + a) % m + b) % m ≡ (sum + (a + b)) % m
twice sum a b m = mod-add-mod (sum + a) m b ∙ ap (λ (k : ℕ). k % m) (add_assoc sum a b)

-- one sample
sample-adds : (wide : Bool) (mask v sum : ℕ)
    → cond wide (((sum + bit_xor (v % 256) mask) % 2 ^ 32 + bit_xor (v / 256) mask) % 2 ^ 32) ((sum + bit_xor (v % 256) mask) % 2 ^ 32)
    ≡ (sum + sample_adds wide mask v) % 2 ^ 32
sample-adds true mask v sum = twice sum (bit_xor (v % 256) mask) (bit_xor (v / 256) mask) (2 ^ 32)
sample-adds false mask v sum = refl

-- a row: the sum so far and all that its samples add, modulo 2^32
pub row_adds : (bits : ℕ) (samples : ℕ → ℕ → ℕ) (y width sum : ℕ) → sum < 2 ^ 32
    → sum_row bits samples y width sum ≡ (sum + total (column_adds (nat_lt 8 bits) (λ x. samples x y) y) width) % 2 ^ 32
unfolding sum_row total
row_adds bits samples y zero sum h = sym (ap (λ (k : ℕ). k % 2 ^ 32) (add-zero sum) ∙ mod-eq_of_lt h)
row_adds bits samples y (suc x) sum h =
    let t : ℕ = total (column_adds (nat_lt 8 bits) (λ i. samples i y) y) x in
    let a : ℕ = column_adds (nat_lt 8 bits) (λ i. samples i y) y x in
    sample-adds (nat_lt 8 bits) (xor_mask x y) (samples x y) (sum_row bits samples y x sum)
    ∙ ap (λ (k : ℕ). (k + a) % 2 ^ 32) (row_adds bits samples y x sum h)
    ∙ twice sum t a (2 ^ 32)

-- rows: the sum so far and all that their samples add, modulo 2^32
pub rows_add : (bits : ℕ) (samples : ℕ → ℕ → ℕ) (width first count sum : ℕ) → sum < 2 ^ 32
    → sum_of_rows bits samples width first count sum
    ≡ (sum + total (λ k. total (column_adds (nat_lt 8 bits) (λ x. samples x (first + k)) (first + k)) width) count) % 2 ^ 32
unfolding sum_of_rows total
rows_add bits samples width first zero sum h = sym (ap (λ (k : ℕ). k % 2 ^ 32) (add-zero sum) ∙ mod-eq_of_lt h)
rows_add bits samples width first (suc k) sum h =
    let row : (ℕ → ℕ) = λ j. total (column_adds (nat_lt 8 bits) (λ x. samples x (first + j)) (first + j)) width in
    let before : ℕ = sum_of_rows bits samples width first k sum in
    let e = rows_add bits samples width first k sum h in
    row_adds bits samples (first + k) width before (rw e (mod-lt (sum + total row k) (omega arith)))
    ∙ ap (λ (s : ℕ). (s + row k) % 2 ^ 32) e ∙ twice sum (total row k) (row k) (2 ^ 32)

-- rows that go on where others ended, by count, and as ranges
rows_split : (bits : ℕ) (samples : ℕ → ℕ → ℕ) (width first a b sum : ℕ)
    → sum_of_rows bits samples width first (a + b) sum ≡ sum_of_rows bits samples width (first + a) b (sum_of_rows bits samples width first a sum)
unfolding sum_of_rows
rows_split bits samples width first a zero sum = ap (λ (k : ℕ). sum_of_rows bits samples width first k sum) (add-zero a)
rows_split bits samples width first a (suc b) sum =
    ap (λ (k : ℕ). sum_of_rows bits samples width first k sum) (add-suc a b)
    ∙ ap (λ (k : ℕ). sum_row bits samples k width (sum_of_rows bits samples width first (a + b) sum)) (sym (add_assoc first a b))
    ∙ ap (sum_row bits samples (first + a + b) width) (rows_split bits samples width first a b sum)

pub range_split : (bits : ℕ) (samples : ℕ → ℕ → ℕ) (width sum : ℕ) {a b c : ℕ} → a ≤ b → b ≤ c
    → sum_of_rows bits samples width a (c - a) sum ≡ sum_of_rows bits samples width b (c - b) (sum_of_rows bits samples width a (b - a) sum)
range_split bits samples width sum {a} {b} {c} h k =
    let e : c - a ≡ (b - a) + (c - b) = omega arith in
    let p : a + (b - a) ≡ b = omega arith in
    ap (λ (n : ℕ). sum_of_rows bits samples width a n sum) e ∙ rows_split bits samples width a (b - a) (c - b) sum
    ∙ ap (λ (y : ℕ). sum_of_rows bits samples width y (c - b) (sum_of_rows bits samples width a (b - a) sum)) p

-- a mask and a byte under it are bytes
pub mask_small : (x y : ℕ) → x < 65536 → y < 65536 → xor_mask x y < 256
unfolding xor_mask
mask_small x y h k =
    let a : x % 256 < 2 ^ 8 = omega arith in
    let b : y % 256 < 2 ^ 8 = omega arith in
    let c : x / 2 ^ 8 < 2 ^ 8 = omega arith in
    let d : y / 2 ^ 8 < 2 ^ 8 = omega arith in
    xor_lt 8 _ _ (xor_lt 8 _ _ (xor_lt 8 _ _ a b) c) d

pub added_most : (wide : Bool) (mask v : ℕ) → mask < 256 → v < 65536 → sample_adds wide mask v ≤ 510
added_most true mask v h k =
    omega (arith, xor_lt 8 (v % 256) mask (omega arith) (omega arith), xor_lt 8 (v / 256) mask (omega arith) (omega arith))
added_most false mask v h k = omega (arith, xor_lt 8 (v % 256) mask (omega arith) (omega arith))

-- the loop over rows: none yet, and one more
module _ (bits : ℕ) (samples : ℕ → ℕ → ℕ) (width first so_far : ℕ) where
  pub rows_none : so_far ≡ sum_of_rows bits samples width first (first - first) so_far
  unfolding sum_of_rows
  rows_none = let e : first - first ≡ 0 = omega arith in rw e

  pub rows_more : (y : ℕ) {sum more next : ℕ} → first ≤ y → sum < 2 ^ 32 → sum ≡ sum_of_rows bits samples width first (y - first) so_far
      → more ≡ total (column_adds (nat_lt 8 bits) (λ x. samples x y) y) width → next ≡ (sum + more) % 2 ^ 32
      → next ≡ sum_of_rows bits samples width first (y + 1 - first) so_far
  unfolding sum_of_rows
  rows_more y {sum} h small is row is-next =
      let e : y + 1 - first ≡ suc (y - first) = omega arith in
      let p : first + (y - first) ≡ y = omega arith in
      rw (e, p) (is-next ∙ ap (λ (k : ℕ). (sum + k) % 2 ^ 32) row ∙ sym (row_adds bits samples y width sum small)
      ∙ ap (sum_row bits samples y width) is)
