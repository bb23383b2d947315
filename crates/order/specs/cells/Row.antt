-- PicWidthInCtbsY of a width and a CTU's side, 16, 32 or 64. Assumes nothing.
use Rattle.std.specs.Prelude.{ℕ, ◌+◌, ◌-◌, ◌/◌, cond, eqb}

-- the width over the CTU's side, rounded up
abbrev pub ceil_div : ℕ → ℕ → ℕ
ceil_div width side = (width + side - 1) / side

-- a side that is no CTU's counts as 64
unfoldable pub ctus_of : ℕ → ℕ → ℕ
ctus_of width ctu = cond (eqb ctu 16) (ceil_div width 16) (cond (eqb ctu 32) (ceil_div width 32) (ceil_div width 64))
