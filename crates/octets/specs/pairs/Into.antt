-- Samples of two bytes, the lower first: what a list holds after they were read into it, or a buffer after they were stored.
-- A count is one of pairs of samples. Where a list is too short for it, nothing is written. Assumes nothing.
use Rattle.std.specs.Prelude.{ℕ, ◌*◌, Bool, cond, ◌&&◌, List, leb, length, get_or}
use Rattle.laws.specs.Fill.{fill}
use Rattle.laws.specs.Bytes.{byte_of}
use Rattle.octets.specs.Bytes.{samples_of}

-- work that is done where its count is at most m and its lists are long enough
abbrev pub served_within : ℕ → ℕ → Bool → List ℕ → List ℕ → List ℕ
served_within m count long work kept = cond (leb count m) (cond long work kept) kept

-- the first samples of bytes
unfoldable pub read_into : ℕ → List ℕ → List ℕ → List ℕ
read_into count row d = served_within 32 count (leb (4 * count) (length row) && leb (2 * count) (length d))
    (fill (λ i. get_or (samples_of row) i 0) (2 * count) d) d

-- the bytes of the first samples
unfoldable pub store_into : ℕ → List ℕ → List ℕ → List ℕ
store_into count samples d =
    served_within 512 count (leb (2 * count) (length samples) && leb (4 * count) (length d))
    (fill (byte_of 2 (λ i. get_or samples i 0)) (4 * count) d) d
