-- Document 01: what the door of substitution refuses, and what it gives. Assumes nothing.
use Rattle.std.specs.Prelude.{ℕ, ◌-◌, ◌^◌, [], ◌∷◌}
use Rattle.laws.specs.Choose.{◌unless◌, first_fail, served}
use Rattle.domain.specs.Domain.{depth_ok, size_ok}
use Rattle.domain.specs.declared.rows.Rows.{Rows}
use Rattle.refs.specs.Answers.{Gathered}
use Rattle.refs.specs.declared.substitution.Flags.{Flags}
use Rattle.domain.specs.rows.Neighbours.{level_rows}
use Rattle.refs.specs.substitution.Substitution.{substituted}

-- the neutral sample of a depth
abbrev pub neutral_at : ℕ → ℕ
neutral_at bits = 2 ^ (bits - 1)

-- Substitution refuses 1 and 2.
unfoldable pub substitute_no : ℕ → ℕ → ℕ
substitute_no bits n = first_fail ((1 unless depth_ok bits) ∷ (2 unless size_ok n) ∷ [])

unfoldable pub substitute_refs : Rows → Flags → ℕ → ℕ → Gathered
substitute_refs rows flags n bits =
    let k = substitute_no bits n in
    record { no = k; rows = served k (substituted n (neutral_at bits) flags rows) (level_rows 0) }
