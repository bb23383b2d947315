-- Document 01, 'use from C': a gather's rows as bytes, and number 5 in its place. Assumes nothing.
use Rattle.std.specs.Prelude.{ℕ, Bool, cond, ◌||◌, List, ◌∷◌, ◌++◌, eqb, get_or}
use Rattle.laws.specs.Fill.{run}
use Rattle.laws.specs.Bytes.{byte_of}
use Rattle.domain.specs.declared.rows.Rows.{Rows}

-- byte j of a list of samples, two bytes each
abbrev pub sample_byte : List ℕ → ℕ → ℕ
sample_byte l = byte_of 2 (λ i. get_or l i 0)

-- Gathering: the corner, the row above, the left column, 131 samples in 262 bytes.
abbrev pub in_line : Rows → List ℕ
in_line r = r.corner ∷ (r.above ++ r.left)

-- a buffer after rows were written into it, from byte at on
unfoldable pub rows_at : ℕ → Rows → List ℕ → List ℕ
rows_at at r d = run (sample_byte (in_line r)) at 262 d

-- a gather's number, told whether its buffer is long enough
abbrev pub room_no : Bool → ℕ → ℕ
room_no roomy k = cond (eqb k 0 || eqb k 6) (cond roomy k 5) k
