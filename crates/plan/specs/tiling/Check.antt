-- Document 01: what refuses a block, 2, 3, 6, 9. Number 9 goes by a running count of the samples that are covered; that this decides
-- 'next uncovered cell' exactly is proved in Cover. Assumes nothing.
use Rattle.std.specs.Prelude.{ℕ, zero, suc, ◌+◌, ◌-◌, ◌*◌, ◌/◌, ◌%◌, min, Bool, ◌&&◌, [], ◌∷◌, leb, eqb}
use Rattle.laws.specs.Choose.{◌unless◌, first_fail}
use Rattle.h265.specs.Notation.{log2}
use Rattle.domain.specs.Domain.{size_ok, mode_ok}
use Rattle.plan.specs.declared.tiling.Frame.{Frame}
use Rattle.plan.specs.declared.tiling.Block.{Block}

-- The picture's cells that come before the cell (y, x), counted by the bits of y and x: m halvings below the CTU, a block of s by s
-- cells at (y, x) in blocks; h and w are the picture's sides in cells.
unfoldable pub ahead_by : ℕ → ℕ → ℕ → ℕ → ℕ → ℕ → ℕ
ahead_by h w zero s y x = y * s * w + x * (s * min s (h - y * s))
ahead_by h w (suc m) s y x =
    ahead_by h w m (2 * s) (y / 2) (x / 2)
    + (x % 2 * (s * min s (h - y * s)) + y % 2 * (s * min (2 * s) (w - x / 2 * (2 * s))))

-- the picture's samples that come before the sample at (r, c) of a cell's corner
unfoldable pub ahead : Frame → ℕ → ℕ → ℕ
ahead f r c = 16 * ahead_by (f.height / 4) (f.width / 4) (log2 f.ctu - 2) 1 (r / 4) (c / 4)

-- number 6: at a multiple of its side, wholly in the picture, no larger than a CTU
abbrev pub placed_ok : Frame → Block → Bool
placed_ok f b =
    eqb (b.row % b.side) 0 && eqb (b.col % b.side) 0 && leb (b.row + b.side) f.height && leb (b.col + b.side) f.width
    && leb b.side f.ctu

-- a block's number, where `covered` samples lie before it in the plan
unfoldable pub block_number : Frame → Block → ℕ → ℕ
block_number f b covered =
    first_fail
    ((2 unless size_ok b.side) ∷ (3 unless mode_ok b.mode) ∷ (6 unless placed_ok f b)
    ∷ (9 unless eqb (ahead f b.row b.col) covered) ∷ [])
