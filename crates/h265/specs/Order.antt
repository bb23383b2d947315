-- 6.5.2, z-scan order: the address of a least transform block. Assumes nothing.
use Rattle.std.specs.Prelude.{ℕ, zero, suc, ◌+◌, ◌-◌, ◌*◌, ◌/◌, ◌%◌, ◌^◌}
use Rattle.h265.specs.Notation.{◌>>ℕ◌}
use Rattle.h265.specs.Setting.{Grid}

-- PicWidthInCtbsY: the width over the CTU's side, rounded up
abbrev pub width_in_ctbs : Grid → ℕ
width_in_ctbs g = (g.width + 2 ^ g.ctb - 1) / 2 ^ g.ctb

-- the sum over i in 0 .. k - 1 of 4^i where bit i of x is set, and of 2 * 4^i where bit i of y is
unfoldable pub interleaved : ℕ → ℕ → ℕ → ℕ
interleaved zero x y = 0
interleaved (suc i) x y = interleaved i x y + (x / 2 ^ i % 2 * 4 ^ i + 2 * (y / 2 ^ i % 2 * 4 ^ i))

-- with w CTUs to a row and k halvings from a CTU to a cell: ctbAddrRs * 2^(2k) and the cell's place in its CTU
unfoldable pub z_scan : ℕ → ℕ → ℕ → ℕ → ℕ
z_scan k w x y = (w * (y >>ℕ k) + (x >>ℕ k)) * 4 ^ k + interleaved k x y

-- MinTbAddrZs[x][y], of the cell in column x and row y of cells
unfoldable pub min_tb_addr_zs : Grid → ℕ → ℕ → ℕ
min_tb_addr_zs g x y = z_scan (g.ctb - g.min_tb) (width_in_ctbs g) x y

-- the address of the cell that holds the luma sample in column x and row y
abbrev pub address_at : Grid → ℕ → ℕ → ℕ
address_at g x y = min_tb_addr_zs g (x >>ℕ g.min_tb) (y >>ℕ g.min_tb)
