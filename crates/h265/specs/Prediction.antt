-- 8.4.4.2.1, how a block's samples are predicted from its neighbours: filtering where it applies, then the mode's own clause.
-- Assumes nothing.
use Rattle.std.specs.Prelude.{ℕ, Bool, cond, not, ◌&&◌, ◌||◌, eqb}
use Rattle.h265.specs.Notation.{Neighbours}
use Rattle.h265.specs.Setting.{Grid, Component, CodingFlags}
use Rattle.h265.specs.Substitution.{neighbours}
use Rattle.h265.specs.Filtering.{filter_flag, filtered}
use Rattle.h265.specs.Planar.{planar}
use Rattle.h265.specs.Dc.{dc}
use Rattle.h265.specs.Angular.{angular}

-- whether the neighbours of a block are filtered: luma, or chroma of 4:4:4 (2014), unless switched off (2014)
unfoldable pub filters : Component → CodingFlags → ℕ → ℕ → Bool
filters c f n mode = not f.smoothing_off && (c.luma || c.full) && filter_flag n mode

unfoldable pub prepared : Component → CodingFlags → ℕ → ℕ → Neighbours → Neighbours
prepared c f n mode nb = cond (filters c f n mode) (filtered (f.strong && c.luma) c.bits n nb) nb

-- predSamples[x][y] from the neighbours before they are filtered
unfoldable pub pred_samples : Component → CodingFlags → ℕ → ℕ → Neighbours → ℕ → ℕ → ℕ
pred_samples c f n mode nb x y =
    let pF = prepared c f n mode nb in
    cond (eqb mode 0) (planar n pF x y)
    (cond (eqb mode 1) (dc c.luma n pF x y)
    (angular c.bits (c.luma && not f.edge_off) n mode pF x y))

-- the same for the block of side n at (xTb, yTb), from the samples decoded before it
unfoldable pub predicted : Grid → Component → CodingFlags → ℕ → ℕ → ℕ → ℕ → (ℕ → ℕ → ℕ) → ℕ → ℕ → ℕ
predicted g c f n mode xTb yTb samples x y = pred_samples c f n mode (neighbours g c n xTb yTb samples) x y
