-- Document 01, module 2: decode order and luma availability, with the doors' refusals. Assumes nothing.
use Rattle.std.specs.Prelude.{ℕ, Bool, false, ◌&&◌, [], ◌∷◌, ltb, ℤ, pos, negsuc}
use Rattle.laws.specs.Choose.{◌unless◌, first_fail, served}
use Rattle.h265.specs.Notation.{log2}
use Rattle.h265.specs.Setting.{Grid}
use Rattle.h265.specs.Order.{address_at}
use Rattle.domain.specs.Domain.{side_ok, ctu_ok, unit_ok}
use Rattle.fmt.specs.declared.LumaRow.{LumaRow}
use Rattle.fmt.specs.declared.LumaCol.{LumaCol}
use Rattle.order.specs.declared.Picture.{Picture}
use Rattle.order.specs.declared.LumaNeighbour.{LumaNeighbour}
use Rattle.order.specs.Answers.{Numbered, Flagged}

-- the standard's luma grid of a picture: its CTU and its least unit as powers of two
abbrev pub grid_of : Picture → Grid
grid_of p = record { width = p.width; height = p.height; ctb = log2 p.ctu; min_tb = log2 p.unit }

-- the decode number of the cell that holds the luma sample in a row and a column
unfoldable pub number_at : Picture → ℕ → ℕ → ℕ
number_at p row col = address_at (grid_of p) col row

-- number 4: the sides and the CTU
abbrev pub picture_ok : Picture → Bool
picture_ok p = side_ok p.width && side_ok p.height && ctu_ok p.ctu

-- number 6 at the order and availability doors: the unit, and the place in the picture
abbrev pub place_ok : Picture → ℕ → ℕ → Bool
place_ok p row col = unit_ok p.unit && ltb row p.height && ltb col p.width

unfoldable pub order_no : Picture → LumaRow → LumaCol → ℕ
order_no p row col = first_fail ((4 unless picture_ok p) ∷ (6 unless place_ok p row.0 col.0) ∷ [])

-- what the order door gives
unfoldable pub decode_order : Picture → LumaRow → LumaCol → Numbered
decode_order p row col =
    let no = order_no p row col in
    record { no = no; value = served no (number_at p row.0 col.0) 0 }

-- a place that is in the picture and whose number is below a limit
unfoldable pub before : Picture → ℕ → ℤ → ℤ → Bool
before p limit (pos row) (pos col) = ltb row p.height && ltb col p.width && ltb (number_at p row col) limit
before p limit (pos row) (negsuc col) = false
before p limit (negsuc row) col = false

-- a luma neighbour is available when it is in the picture and its number is less than the block's
abbrev pub available_to : Picture → LumaRow → LumaCol → ℤ → ℤ → Bool
available_to p row col nr nc = before p (number_at p row.0 col.0) nr nc

-- what the availability door gives; a neighbour outside the picture is only unavailable
unfoldable pub is_available : Picture → LumaNeighbour → LumaRow → LumaCol → Flagged
is_available p nb row col =
    let no = order_no p row col in
    record { no = no; yes = served no (available_to p row col nb.row nb.col) false }
