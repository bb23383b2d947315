-- Document 01, module 4: the rows of a block by a rule that tells which neighbours are there. A missing sample is read nowhere.
-- Assumes nothing.
use Rattle.std.specs.Prelude.{ℕ, ◌+◌, ◌-◌, ◌*◌, Bool, false, cond, List, ℤ, get_or, replicate}
use Rattle.laws.specs.Fill.{fill}
use Rattle.order.specs.Reach.{corner_has, above_has, left_has}
use Rattle.domain.specs.declared.rows.Rows.{Rows}
use Rattle.refs.specs.declared.substitution.Flags.{Flags}
use Rattle.refs.specs.substitution.Substitution.{substituted}

-- which neighbours of the block at (row, col) are there, entries 0 to 2n
abbrev pub flags_by : (ℤ → ℤ → Bool) → ℕ → ℕ → ℕ → Flags
flags_by has row col n =
    record {
      corner = corner_has has row col;
      above = fill (above_has has row col) (2 * n + 1) (replicate 65 false);
      left = fill (left_has has row col) (2 * n + 1) (replicate 65 false);
    }

-- their samples; 0 where one is not there
abbrev pub samples_by : (ℤ → ℤ → Bool) → (ℕ → ℕ → ℕ) → ℕ → ℕ → ℕ → Rows
samples_by has sample row col n =
    record {
      corner = cond (corner_has has row col) (sample (row - 1) (col - 1)) 0;
      above = fill (λ i. cond (above_has has row col i) (sample (row - 1) (col + i)) 0) (2 * n + 1) (replicate 65 0);
      left = fill (λ i. cond (left_has has row col i) (sample (row + i) (col - 1)) 0) (2 * n + 1) (replicate 65 0);
    }

unfoldable pub gathered_by : (ℤ → ℤ → Bool) → (ℕ → ℕ → ℕ) → ℕ → ℕ → ℕ → ℕ → Rows
gathered_by has sample row col n neutral = substituted n neutral (flags_by has row col n) (samples_by has sample row col n)

-- the sample in a row and a column of a plane of a width
abbrev pub sample_of : List ℕ → ℕ → ℕ → ℕ → ℕ
sample_of plane width row col = get_or plane (row * width + col) 0
