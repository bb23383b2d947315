-- What a line of a fixed list stands for beside its words: samples that are drawn from a seed, 32 entries that are to be found in what was
-- written, and a count of the calls. Assumes nothing.
use Rattle.std.specs.Prelude.{ℕ, zero, suc, ◌+◌, ◌*◌, ◌%◌, min, Bool, true, cond, ◌&&◌, List, eqb, get_or, length, replicate}
use Rattle.laws.specs.Fill.{fill}
use Rattle.listing.specs.declared.Count.{Count}
use Rattle.listing.specs.Hex.{word_at}

-- the number after a number, and the seed of the second row of numbers
abbrev pub next_of : ℕ → ℕ
next_of x = (x % 65537 * 75 + 74) % 65537

abbrev pub other_seed : ℕ → ℕ
other_seed x = (x % 65537 * 171 + 11213) % 65537

-- a number as a sample of at most a largest; a largest of 1 stands for samples of either end
abbrev pub drawn_sample : ℕ → ℕ → ℕ
drawn_sample x top = cond (eqb top 1) (x % 2 * 65535) (x % (min top 65535 + 1))

-- the number that is so many after a seed
unfoldable pub number_after : ℕ → ℕ → ℕ
number_after seed zero = seed
number_after seed (suc k) = next_of (number_after seed k)

-- a lent list with a sample for each number after the seed
abbrev pub drawn : ℕ → ℕ → List ℕ → List ℕ
drawn seed top d = fill (λ (i : ℕ). drawn_sample (number_after seed (i + 1)) top) (length d) d

abbrev pub drawn_row : ℕ → ℕ → List ℕ
drawn_row seed top = drawn seed top (replicate 65 0)

-- whether the first k entries from a place on are a line's words from a word on; what lies past an end counts as 0
unfoldable pub same_from : List ℕ → ℕ → List ℕ → ℕ → ℕ → Bool
same_from line first written place zero = true
same_from line first written place (suc k) = same_from line first written place k
    && eqb (word_at line (9 * (first + k))) (get_or written (place + k) 0)

-- one call more, which gave what the list has or not; a count stays at its largest
abbrev pub more : ℕ → ℕ
more k = min (k + 1) 18446744073709551615

abbrev pub counted : Count → Bool → Count
counted c same = record { calls = more c.calls; differ = cond same c.differ (more c.differ) }
