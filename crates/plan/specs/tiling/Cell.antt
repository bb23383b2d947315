-- The cell that has a number: `cell_no` undone. Assumes nothing.
use Rattle.std.specs.Prelude.{◌≡◌, ℕ, zero, suc, ◌+◌, ◌*◌, ◌/◌, ◌%◌, ◌^◌, ◌<◌}
use Rattle.std.proofs.Common.{ap₂, div-add-mod', mod-lt, arith}
use Rattle.order.specs.CellWalk.{cell_no, dbl, cell_inj}

-- row and column of the cell that has number m, k halvings below the CTU, w CTUs a row
unfoldable pub cell_row : ℕ → ℕ → ℕ → ℕ
cell_row zero w m = m / w
cell_row (suc k) w m = 2 * cell_row k w (m / 4) + m % 4 / 2

unfoldable pub cell_col : ℕ → ℕ → ℕ → ℕ
cell_col zero w m = m % w
cell_col (suc k) w m = 2 * cell_col k w (m / 4) + m % 2

twice_div : (a b : ℕ) → b < 2 → (2 * a + b) / 2 ≡ a
twice_div a b h = omega arith

twice_mod : (a b : ℕ) → b < 2 → (2 * a + b) % 2 ≡ b
twice_mod a b h = omega arith

pub cell_of : (k w m : ℕ) → 0 < w → cell_no k w (cell_row k w m) (cell_col k w m) ≡ m
unfolding cell_no cell_row cell_col
cell_of zero w m pos = div-add-mod' m w
cell_of (suc k) w m pos =
    let a : m % 4 / 2 < 2 = omega arith in
    let b : m % 2 < 2 = omega arith in
    let ih = cell_of k w (m / 4) pos in
    let top = ap₂ (cell_no k w) (twice_div (cell_row k w (m / 4)) (m % 4 / 2) a) (twice_div (cell_col k w (m / 4)) (m % 2) b) in
    omega (arith, top, ih, twice_mod (cell_row k w (m / 4)) (m % 4 / 2) a, twice_mod (cell_col k w (m / 4)) (m % 2) b)

pub col_of_lt : (k w m : ℕ) → 0 < w → cell_col k w m < w * 2 ^ k
unfolding cell_col
col_of_lt zero w m pos = omega (arith, mod-lt m pos)
col_of_lt (suc k) w m pos = omega (arith, dbl w k, col_of_lt k w (m / 4) pos)

-- the cell of a cell's number is the cell
pub of_cell : (k w : ℕ) {y x : ℕ} → 0 < w → x < w * 2 ^ k → (cell_row k w (cell_no k w y x) ≡ y) × (cell_col k w (cell_no k w y x) ≡ x)
of_cell k w {y} {x} pos h = cell_inj k w (col_of_lt k w (cell_no k w y x) pos) h (cell_of k w (cell_no k w y x) pos)
