-- Document 02's figures of the picture checksum on planes of 4 by 4, at what the door's contract names. Assumes nothing.
use Rattle.std.specs.Prelude.{◌≡◌, refl, List, [], ◌∷◌, ℕ, replicate}
use Rattle.laws.specs.Every.{every}
use Rattle.h265.specs.Checksum.{xor_mask, sum_row, sum_of_rows}
use Rattle.checksum.specs.Checksum.{row_range, checksum_no_by, summed_by, checksum_of, summed}

-- one sample all over; 4y + x
abbrev level : ℕ → List ℕ
level v = replicate 16 v

abbrev steps : List ℕ
steps = 0 ∷ 1 ∷ 2 ∷ 3 ∷ 4 ∷ 5 ∷ 6 ∷ 7 ∷ 8 ∷ 9 ∷ 10 ∷ 11 ∷ 12 ∷ 13 ∷ 14 ∷ 15 ∷ []

-- all rows from 0: zeros at 8 and at 10 bits, and the largest samples of each depth
pub levels :
    checksum_of (row_range 8 4 4 0 4) (level 0) 0 ∷ checksum_of (row_range 10 4 4 0 4) (level 0) 0
    ∷ checksum_of (row_range 8 4 4 0 4) (level 255) 0 ∷ checksum_of (row_range 10 4 4 0 4) (level 1023) 0
    ∷ checksum_of (row_range 12 4 4 0 4) (level 4095) 0 ∷ []
    ≡ summed 0 24 ∷ summed 0 48 ∷ summed 0 4056 ∷ summed 0 4080 ∷ summed 0 4272 ∷ []
unfolding summed_by checksum_no_by every sum_of_rows sum_row xor_mask
levels = refl

-- steps: all rows, both halves, none; zeros from the largest sum, which wraps
pub ranges :
    checksum_of (row_range 8 4 4 0 4) steps 0 ∷ checksum_of (row_range 8 4 4 0 2) steps 0 ∷ checksum_of (row_range 8 4 4 2 4) steps 0
    ∷ checksum_of (row_range 8 4 4 4 4) steps 0 ∷ checksum_of (row_range 8 4 4 0 4) (level 0) 4294967295 ∷ []
    ≡ summed 0 120 ∷ summed 0 20 ∷ summed 0 100 ∷ summed 0 0 ∷ summed 0 23 ∷ []
unfolding summed_by checksum_no_by every sum_of_rows sum_row xor_mask
ranges = refl
