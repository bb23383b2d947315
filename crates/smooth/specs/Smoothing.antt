-- Document 01, module 5: what smoothing gives back, built from the standard's filtering (8.4.4.2.3). Assumes nothing.
use Rattle.std.specs.Prelude.{Bool, false, cond, ◌&&◌, List, [], ◌∷◌, ℕ, ◌+◌, ◌*◌, leb, ltb, length, get_or, replicate}
use Rattle.laws.specs.Fill.{fill}
use Rattle.laws.specs.Choose.{Check, ◌unless◌, first_fail, served}
use Rattle.h265.specs.Notation.{from_rows}
use Rattle.h265.specs.Filtering.{filter_flag, filtered}
use Rattle.domain.specs.Domain.{depth_ok, size_ok, mode_ok, smoothing_row}
use Rattle.domain.specs.declared.rows.Rows.{Rows}
use Rattle.domain.specs.rows.Neighbours.{zero_rows}
use Rattle.smooth.specs.Answers.{Rule, FilteredRows, Smoothed}

-- entry i of a row: the standard's pF up to 2n - 1; entry 2n as it came
abbrev pub row_entry : ℕ → (ℕ → ℕ) → List ℕ → ℕ → ℕ
row_entry n pF row i = cond (ltb i (2 * n)) (pF i) (get_or row i 0)

-- a row of 65: entries 0 to 2n, and 0 past them
unfoldable pub row_of : ℕ → (ℕ → ℕ) → List ℕ → List ℕ
row_of n pF row = fill (row_entry n pF row) (2 * n + 1) (replicate 65 0)

-- the corner and both rows; allowed says that the strong form may be taken
unfoldable pub smoothed : Bool → ℕ → ℕ → ℕ → List ℕ → List ℕ → Rows
smoothed allowed bits n corner above left =
    let pF = filtered allowed bits n (from_rows corner above left) in
    record { corner = pF.corner; above = row_of n pF.above above; left = row_of n pF.left left }

-- numbers 2 and 5, of rows with so many entries
abbrev pub row_checks : ℕ → ℕ → ℕ → List Check
row_checks n above left = (2 unless size_ok n) ∷ (5 unless (leb smoothing_row above && leb smoothing_row left)) ∷ []

abbrev pub rule_no : ℕ → ℕ → ℕ
rule_no mode n = first_fail ((2 unless size_ok n) ∷ (3 unless mode_ok mode) ∷ [])

abbrev pub filter_no : ℕ → ℕ → ℕ → ℕ
filter_no n above left = first_fail (row_checks n above left)

abbrev pub filter_luma_no : ℕ → ℕ → ℕ → ℕ → ℕ
filter_luma_no bits n above left = first_fail ((1 unless depth_ok bits) ∷ row_checks n above left)

-- whether a block's references are smoothed
unfoldable pub should_filter_refs : ℕ → ℕ → Rule
should_filter_refs mode n = let no = rule_no mode n in record { no = no; yes = served no (filter_flag n mode) false }

-- the [1 2 1] form alone: the strong one is not allowed, so the depth plays no part
unfoldable pub filter_references : ℕ → List ℕ → List ℕ → ℕ → FilteredRows
filter_references corner above left n =
    let no = filter_no n (length above) (length left) in
    let rows = served no (smoothed false 0 n corner above left) zero_rows in
    record { no = no; above = rows.above; left = rows.left }

-- either form
unfoldable pub filter_luma_refs : Bool → ℕ → List ℕ → List ℕ → ℕ → ℕ → Smoothed
filter_luma_refs allowed corner above left n bits =
    let no = filter_luma_no bits n (length above) (length left) in
    record { no = no; rows = served no (smoothed allowed bits n corner above left) zero_rows }
