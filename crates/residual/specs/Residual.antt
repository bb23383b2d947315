-- Document 01, module 7: residual and reconstruction, sample by sample, and what the calls refuse. Assumes nothing.
use Rattle.std.specs.Prelude.{ℕ, zero, suc, ◌-◌, ◌*◌, ◌^◌, Bool, true, ◌&&◌, List, [], ◌∷◌, length, ℤ, pos, ◌+ℤ◌, ◌-ℤ◌, nat_le, slice_index, slice_index_or}
use Rattle.laws.specs.Fill.{fill}
use Rattle.laws.specs.Choose.{Check, ◌unless◌, first_fail, served}
use Rattle.h265.specs.Notation.{clip_to}
use Rattle.domain.specs.Domain.{depth_ok, size_ok}
use Rattle.samples.specs.deltas.Deltas.{residual_ok}

-- original less prediction, at entry i
abbrev pub difference_at : List ℕ → List ℕ → ℕ → ℤ
difference_at orig pred i = pos (slice_index orig i) -ℤ pos (slice_index pred i)

-- prediction plus residual, brought to 0..largest, at entry i
abbrev pub rebuilt_to : ℕ → List ℕ → List ℤ → ℕ → ℕ
rebuilt_to largest pred residual i = clip_to largest (pos (slice_index pred i) +ℤ slice_index_or residual i (pos 0))

-- the first k are in range
unfoldable pub all_in_range : List ℤ → ℕ → Bool
all_in_range rs zero = true
all_in_range rs (suc k) = all_in_range rs k && residual_ok (slice_index_or rs k (pos 0))

-- numbers 2 and 5 of three block buffers with so many entries, then more
abbrev pub block_checks : ℕ → ℕ → ℕ → ℕ → List Check → List Check
block_checks n a b c more = (2 unless size_ok n) ∷ (5 unless (nat_le (n * n) a && nat_le (n * n) b && nat_le (n * n) c)) ∷ more

unfoldable pub residual_no : ℕ → ℕ → ℕ → ℕ → ℕ
residual_no n orig pred residual = first_fail (block_checks n orig pred residual [])

unfoldable pub reconstruct_no : ℕ → ℕ → ℕ → List ℤ → ℕ → ℕ
reconstruct_no bits n pred residual out =
    first_fail ((1 unless depth_ok bits) ∷ block_checks n pred (length residual) out ((8 unless all_in_range residual (n * n)) ∷ []))

-- what the lent buffer holds afterwards: the first n * n entries are written, the rest is kept
unfoldable pub residuals_after : ℕ → List ℕ → List ℕ → List ℤ → List ℤ
residuals_after n orig pred residual =
    served (residual_no n (length orig) (length pred) (length residual)) (fill (difference_at orig pred) (n * n) residual) residual

unfoldable pub reconstructed : ℕ → ℕ → List ℕ → List ℤ → List ℕ → List ℕ
reconstructed bits n pred residual out =
    served (reconstruct_no bits n (length pred) residual (length out)) (fill (rebuilt_to (2 ^ bits - 1) pred residual) (n * n) out) out
