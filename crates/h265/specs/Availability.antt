-- 6.4.1, availability in z-scan order, for one slice and one tile. Assumes nothing.
use Rattle.std.specs.Prelude.{ℕ, Bool, false, not, ◌&&◌, ltb, ℤ, pos, negsuc}
use Rattle.h265.specs.Setting.{Grid}
use Rattle.h265.specs.Order.{address_at}

-- whether the luma sample at (xNb, yNb) is available to the block at (xCurr, yCurr): it is in the picture, and its
-- address is not greater than the current one
unfoldable pub available : Grid → ℕ → ℕ → ℤ → ℤ → Bool
available g xCurr yCurr (pos xNb) (pos yNb) =
    ltb xNb g.width && ltb yNb g.height && not (ltb (address_at g xCurr yCurr) (address_at g xNb yNb))
available g xCurr yCurr (pos xNb) (negsuc yNb) = false
available g xCurr yCurr (negsuc xNb) yNb = false
