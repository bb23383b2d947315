-- A small evaluation: the place where 6.4.1 and document 01 part. Figure P6 is in the table of crate figures. Assumes nothing.
use Rattle.std.specs.Prelude.{◌≡◌, refl, Bool, true, false, List, [], ◌∷◌, pos}
use Rattle.h265.specs.Notation.{halvings}
use Rattle.h265.specs.Order.{min_tb_addr_zs, z_scan, interleaved}
use Rattle.h265.specs.Availability.{available}
use Rattle.order.specs.declared.Picture.{Picture}
use Rattle.order.specs.Order.{grid_of, number_at, before, available_to}

abbrev sixteen : Picture
sixteen = record { width = 32; height = 24; ctu = 16; unit = 8 }

-- block (0, 4), neighbour (0, 3), in one cell of 8: available to the standard, not to document 01
pub parts : ◌≡◌ {A = List Bool} (available (grid_of sixteen) 4 0 (pos 3) (pos 0)
    ∷ available_to sixteen (record { 0 = 0 }) (record { 0 = 4 }) (pos 0) (pos 3) ∷ []) (true ∷ false ∷ [])
unfolding available before number_at min_tb_addr_zs z_scan interleaved halvings
parts = refl
