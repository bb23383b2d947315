-- `order::is_available` meets its contract: refused as the block's place is, or the neighbour held against the block's own number.
use Rattle.std.proofs.Common.{sym, arith, to_z-of_z}
use Rattle.std.specs.Int.{w64}
use Rattle.order.specs.Signs.{avail_is}
use Rattle.order.specs.Good.{good_of, small_of, number_of}
use Rattle.order.proofs.is_available.Goals as goal

pub shifts_of-requires : goal.shifts_of-requires
shifts_of-requires c = (good_of _ _ _ (sym c.in_ok-check_place.ensures)).0

pub number-cur-requires : goal.number-cur-requires
number-cur-requires c = let g = good_of _ _ _ (sym c.in_ok-check_place.ensures) in
    (small_of g.0 _ c.shifts_of.ensures, omega (arith, g.0.tall.high), omega (arith, g.0.wide.high))

pub comes_before-requires : goal.comes_before-requires
comes_before-requires c = (good_of _ _ _ (sym c.in_ok-check_place.ensures)).0

pub returns : goal.returns
returns c = let a = c.args in
    avail_is a.picture a.neighbour a.block_row a.block_col _ _ _ _ (sym c.in_ok-check_place.ensures)
    (number_of c.args.picture _ _ c.args.block_row.0 c.args.block_col.0 c.shifts_of.ensures c.number-cur.ensures)
    (to_z-of_z {w = w64} (record { sfits = c.struct_told-1.given.0.1 }))
    (to_z-of_z {w = w64} (record { sfits = c.struct_told-2-1.given.1.0.1 }))
    c.comes_before.ensures
