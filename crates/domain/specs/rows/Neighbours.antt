-- The standard's neighbours p[x][y] as rows hold them, and the rows of a refused call. Assumes nothing.
use Rattle.std.specs.Prelude.{ℕ, replicate}
use Rattle.h265.specs.Notation.{Neighbours, from_rows}
use Rattle.domain.specs.declared.rows.Rows.{Rows}

abbrev pub neighbours_of : Rows → Neighbours
neighbours_of r = from_rows r.corner r.above r.left

-- rows whose samples are all one
abbrev pub level_rows : ℕ → Rows
level_rows v = record { corner = v; above = replicate 65 v; left = replicate 65 v }

-- those of a refused call
abbrev pub zero_rows : Rows
zero_rows = level_rows 0
