-- Annex D, decoded picture hash message, the checksum kind (hash_type 2) of one colour component. Assumes nothing.
use Rattle.std.specs.Prelude.{ℕ, zero, suc, ◌+◌, ◌%◌, ◌^◌, cond, ltb}
use Rattle.std.specs.Int.Bits.{bit_xor}
use Rattle.h265.specs.Notation.{◌>>ℕ◌}

-- xor_mask of column x and row y; a & 0xFF is a % 256
unfoldable pub xor_mask : ℕ → ℕ → ℕ
xor_mask x y = bit_xor (bit_xor (bit_xor (x % 256) (y % 256)) (x >>ℕ 8)) (y >>ℕ 8)

-- sum after one byte, and after the sample v in column x and row y: its low byte, above 8 bits its high byte too; a & 0xFFFFFFFF is
-- a % 2 ^ 32
abbrev pub sum_byte : ℕ → ℕ → ℕ → ℕ
sum_byte mask byte sum = (sum + bit_xor byte mask) % 2 ^ 32

abbrev pub sum_sample : ℕ → ℕ → ℕ → ℕ → ℕ → ℕ
sum_sample bits x y v sum =
    let low = sum_byte (xor_mask x y) (v % 256) sum in
    cond (ltb 8 bits) (sum_byte (xor_mask x y) (v >>ℕ 8) low) low

-- sum after so many samples of row y, from column 0 on, of samples in column x and row y
unfoldable pub sum_row : ℕ → (ℕ → ℕ → ℕ) → ℕ → ℕ → ℕ → ℕ
sum_row bits samples y zero sum = sum
sum_row bits samples y (suc x) sum = sum_sample bits x y (samples x y) (sum_row bits samples y x sum)

-- sum after so many rows from row first on
unfoldable pub sum_of_rows : ℕ → (ℕ → ℕ → ℕ) → ℕ → ℕ → ℕ → ℕ → ℕ
sum_of_rows bits samples width first zero sum = sum
sum_of_rows bits samples width first (suc k) sum = sum_row bits samples (first + k) width (sum_of_rows bits samples width first k sum)

-- picture_checksum
abbrev pub picture_checksum : ℕ → (ℕ → ℕ → ℕ) → ℕ → ℕ → ℕ
picture_checksum bits samples width height = sum_of_rows bits samples width 0 height 0
