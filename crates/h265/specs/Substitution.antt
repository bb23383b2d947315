-- 8.4.4.2.2, the neighbours of a block from the samples decoded before it, the missing ones substituted. Assumes nothing.
use Rattle.std.specs.Prelude.{ℕ, zero, suc, ◌+◌, ◌-◌, ◌*◌, ◌^◌, Bool, cond, leb, ltb, ℤ, pos, nat_abs, ◌+ℤ◌, ◌*ℤ◌}
use Rattle.h265.specs.Notation.{−1, Neighbours}
use Rattle.h265.specs.Setting.{Grid, Component}
use Rattle.h265.specs.Availability.{available}

-- The 4n + 1 neighbours in the order of the process: place 0 is p[−1][2n−1], place 2n the corner, place 4n p[2n−1][−1].
abbrev pub place_x : ℕ → ℕ → ℤ
place_x n k = cond (leb k (2 * n)) −1 (pos (k - (2 * n + 1)))

abbrev pub place_y : ℕ → ℕ → ℤ
place_y n k = cond (ltb k (2 * n)) (pos (2 * n - 1 - k)) −1

-- the first of m places from k on that is marked as available, or k + m
unfoldable pub first_marked : (ℕ → Bool) → ℕ → ℕ → ℕ
first_marked marked k zero = k
first_marked marked k (suc m) = cond (marked k) k (first_marked marked (suc k) m)

-- place k in the end: place 0 takes the first available one where it is missing itself, each later missing place the one before it
unfoldable pub settled : (ℕ → Bool) → (ℕ → ℕ) → ℕ → ℕ → ℕ
settled marked value found zero = value (cond (marked 0) 0 found)
settled marked value found (suc k) = cond (marked (suc k)) (value (suc k)) (settled marked value found k)

-- all places: 2^(bitDepth-1) where none is available
unfoldable pub substituted_at : ℕ → ℕ → (ℕ → Bool) → (ℕ → ℕ) → ℕ → ℕ
substituted_at bits n marked value k =
    let found = first_marked marked 0 (4 * n + 1) in
    cond (ltb found (4 * n + 1)) (settled marked value found k) (2 ^ (bits - 1))

-- the neighbours at their places
abbrev pub from_places : ℕ → (ℕ → ℕ) → Neighbours
from_places n at = record { corner = at (2 * n); above = λ x. at (2 * n + 1 + x); left = λ y. at (2 * n - 1 - y) }

-- whether p[x][y] of the block whose first sample is (xTb, yTb) of its component is marked as available
unfoldable pub marked : Grid → Component → ℕ → ℕ → ℤ → ℤ → Bool
marked g c xTb yTb x y =
    available g (xTb * c.sub_width) (yTb * c.sub_height) ((pos xTb +ℤ x) *ℤ pos c.sub_width) ((pos yTb +ℤ y) *ℤ pos c.sub_height)

-- the neighbours of the block of side n at (xTb, yTb), from the component's samples in column x and row y
unfoldable pub neighbours : Grid → Component → ℕ → ℕ → ℕ → (ℕ → ℕ → ℕ) → Neighbours
neighbours g c n xTb yTb samples =
    from_places n
    (substituted_at c.bits n
    (λ k. marked g c xTb yTb (place_x n k) (place_y n k))
    (λ k. samples (nat_abs (pos xTb +ℤ place_x n k)) (nat_abs (pos yTb +ℤ place_y n k))))
