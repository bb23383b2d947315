-- Document 01, module 3: substitution over a line of entries 0 to 2n of both rows. The first entry that is there and the filling are
-- those of H.265 8.4.4.2.2, over two places more. Assumes nothing.
use Rattle.std.specs.Prelude.{ℕ, ◌+◌, ◌-◌, ◌*◌, Bool, false, cond, leb, ltb, eqb, get_or}
use Rattle.domain.specs.rows.Neighbours.{level_rows}
use Rattle.laws.specs.Fill.{fill}
use Rattle.h265.specs.Substitution.{first_marked, settled}
use Rattle.domain.specs.declared.rows.Rows.{Rows}
use Rattle.refs.specs.declared.substitution.Flags.{Flags}

-- place k of the line: left[e] down to left[0], the corner, above[0] to above[e]
unfoldable pub marked_on_line : {A : Type 0} → (ℕ → A) → A → (ℕ → A) → ℕ → ℕ → A
marked_on_line left corner above e k = cond (leb k e) (left (e - k)) (cond (eqb k (e + 1)) corner (above (k - (e + 2))))

-- which places are there, and their samples
abbrev pub flags_on : Flags → ℕ → ℕ → Bool
flags_on f e = marked_on_line (λ i. get_or f.left i false) f.corner (λ i. get_or f.above i false) e

abbrev pub samples_on : Rows → ℕ → ℕ → ℕ
samples_on r e = marked_on_line (λ i. get_or r.left i 0) r.corner (λ i. get_or r.above i 0) e

-- the rows with the line's places in the end; entries past e stay as they came
abbrev pub from_line : ℕ → (ℕ → ℕ) → Rows → Rows
from_line e at rows =
    record {
      corner = at (e + 1);
      above = fill (λ i. at (e + 2 + i)) (e + 1) rows.above;
      left = fill (λ i. at (e - i)) (e + 1) rows.left;
    }

unfoldable pub substituted : ℕ → ℕ → Flags → Rows → Rows
substituted n neutral flags rows =
    let e = 2 * n in
    let found = first_marked (flags_on flags e) 0 (2 * e + 3) in
    cond (ltb found (2 * e + 3)) (from_line e (settled (flags_on flags e) (samples_on rows e) found) rows) (level_rows neutral)
