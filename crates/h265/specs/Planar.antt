-- 8.4.4.2.4, planar prediction. Assumes nothing.
use Rattle.std.specs.Prelude.{ℕ, ◌+◌, ◌-◌, ◌*◌, pos}
use Rattle.h265.specs.Notation.{−1, Neighbours, near, ◌⟦◌⟧⟦◌⟧, log2, ◌>>ℕ◌}

-- predSamples[x][y]
unfoldable pub planar : ℕ → Neighbours → ℕ → ℕ → ℕ
planar n nb x y =
    let p = near nb in
    (n - 1 - x) * p ⟦ −1 ⟧⟦ pos y ⟧ + (x + 1) * p ⟦ pos n ⟧⟦ −1 ⟧ + (n - 1 - y) * p ⟦ pos x ⟧⟦ −1 ⟧ + (y + 1) * p ⟦ −1 ⟧⟦ pos n ⟧ + n
    >>ℕ (log2 n + 1)
