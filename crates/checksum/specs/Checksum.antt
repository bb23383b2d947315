-- Document 02, Wish 7: the checksum of H.265 Annex D over a range of a plane's rows, from the sum so far. Assumes nothing.
use Rattle.std.specs.Prelude.{ℕ, ◌+◌, ◌-◌, ◌*◌, ◌^◌, Bool, ◌&&◌, leb, List, [], ◌∷◌, length, ◌==◌, nat_le, slice_index}
use Rattle.laws.specs.Choose.{◌unless◌, first_fail, served}
use Rattle.laws.specs.Every.{every}
use Rattle.h265.specs.Checksum.{sum_of_rows}
use Rattle.domain.specs.Domain.{depth_ok, plane_side_ok}
use Rattle.octets.specs.Bytes.{samples_of}
use Rattle.checksum.specs.declared.RowRange.{RowRange}
use Rattle.checksum.specs.Answers.{Summed}

-- a range from its numbers
abbrev pub row_range : ℕ → ℕ → ℕ → ℕ → ℕ → RowRange
row_range bits width height first end = record { bits = bits; width = width; height = height; first = first; end = end }

-- the sample in column x and row y
abbrev pub sample_in_plane : List ℕ → ℕ → ℕ → ℕ → ℕ
sample_in_plane plane width x y = slice_index plane (y * width + x)

-- Refusals 1, 4, 5, 7, and 11 for rows that run backward or leave the plane: `fit` tells whether all that is lent is as long as it must be,
-- `ok` whether every sample is one of the depth's.
unfoldable pub checksum_no_by : RowRange → Bool → Bool → ℕ
checksum_no_by r fit ok =
    first_fail
    ((1 unless depth_ok r.bits) ∷ (4 unless (plane_side_ok r.width && plane_side_ok r.height)) ∷ (5 unless fit) ∷ (7 unless ok)
    ∷ (11 unless (nat_le r.first r.end && nat_le r.end r.height)) ∷ [])

abbrev pub checksum_no : RowRange → Bool → List ℕ → ℕ
checksum_no r fit plane = checksum_no_by r fit (every (λ v. leb v (2 ^ r.bits - 1)) plane)

-- a call's number and sum: 0 where it is refused
abbrev pub summed : ℕ → ℕ → Summed
summed k sum = record { no = k; sum = sum }

unfoldable pub summed_by : RowRange → Bool → List ℕ → ℕ → Summed
summed_by r fit plane sum =
    let k = checksum_no r fit plane in
    summed k (served k (sum_of_rows r.bits (sample_in_plane plane r.width) r.width r.first (r.end - r.first) sum) 0)

-- a plane of samples, exactly as many as its sides tell
abbrev pub checksum_of : RowRange → List ℕ → ℕ → Summed
checksum_of r plane sum = summed_by r (length plane == r.height * r.width) plane sum

-- a plane of bytes, two a sample, exactly as many; `roomy` tells whether the caller has room for the sum
abbrev pub checksum_on_bytes : RowRange → Bool → List ℕ → ℕ → Summed
checksum_on_bytes r roomy bytes sum = summed_by r (roomy && length bytes == 2 * (r.height * r.width)) (samples_of bytes) sum
