-- The works that are done, where their lists are long enough. Assumes nothing.
use Rattle.std.specs.Prelude.{ℕ, ◌*◌, ◌≤◌, ◌≡◌, Bool, true, ◌&&◌, List, leb, length, get_or}
use Rattle.std.proofs.Common.{le-leb}
use Rattle.laws.specs.Fill.{fill}
use Rattle.laws.specs.Bytes.{byte_of}
use Rattle.octets.specs.Bytes.{samples_of}
use Rattle.octets.specs.pairs.Into.{served_within, read_into, store_into}

-- where all is long enough
enough : (m count : ℕ) (long : Bool) (work kept : List ℕ) → count ≤ m → long ≡ true → served_within m count long work kept ≡ work
enough m count long work kept h e = rw (le-leb count m h, e)

pub read_done : (count : ℕ) (row d : List ℕ) → count ≤ 32 → 4 * count ≤ length row → 2 * count ≤ length d → read_into count row d
    ≡ fill (λ i. get_or (samples_of row) i 0) (2 * count) d
unfolding read_into
read_done count row d h p q = enough 32 count (leb (4 * count) (length row) && leb (2 * count) (length d)) _ _ h
    (rw (le-leb (4 * count) (length row) p, le-leb (2 * count) (length d) q))

pub store_done : (count : ℕ) (samples d : List ℕ) → count ≤ 512 → 2 * count ≤ length samples → 4 * count ≤ length d
    → store_into count samples d ≡ fill (byte_of 2 (λ i. get_or samples i 0)) (4 * count) d
unfolding store_into
store_done count samples d h p q = enough 512 count (leb (2 * count) (length samples) && leb (4 * count) (length d)) _ _ h
    (rw (le-leb (2 * count) (length samples) p, le-leb (4 * count) (length d) q))
