-- 8.4.4.2.5, DC prediction. Assumes nothing.
use Rattle.std.specs.Prelude.{ℕ, zero, suc, ◌+◌, ◌*◌, Bool, cond, ◌&&◌, ltb, eqb}
use Rattle.h265.specs.Notation.{Neighbours, log2, ◌>>ℕ◌}

-- f 0 + .. + f (k - 1)
unfoldable pub sum_to : (ℕ → ℕ) → ℕ → ℕ
sum_to f zero = 0
sum_to f (suc k) = sum_to f k + f k

unfoldable pub dc_val : ℕ → Neighbours → ℕ
dc_val n nb = sum_to nb.above n + sum_to nb.left n + n >>ℕ (log2 n + 1)

-- predSamples[x][y]; edge says that cIdx is 0
unfoldable pub dc : Bool → ℕ → Neighbours → ℕ → ℕ → ℕ
dc edge n nb x y =
    let v = dc_val n nb in
    cond (edge && ltb n 32)
    (cond (eqb x 0)
    (cond (eqb y 0) (nb.left 0 + 2 * v + nb.above 0 + 2 >>ℕ 2) (nb.left y + 3 * v + 2 >>ℕ 2))
    (cond (eqb y 0) (nb.above x + 3 * v + 2 >>ℕ 2) v))
    v
