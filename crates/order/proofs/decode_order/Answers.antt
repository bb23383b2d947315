-- `order::decode_order` meets its contract: refused as its place is, or the place's own number.
use Rattle.std.proofs.Common.{sym, arith}
use Rattle.order.specs.Order.{decode_order}
use Rattle.order.specs.Good.{good_of, small_of, number_of, number_small}
use Rattle.order.proofs.decode_order.Goals as goal

pub shifts_of-s-requires : goal.shifts_of-s-requires
shifts_of-s-requires c = (good_of _ _ _ (sym c.in_ok-check_place.ensures)).0

pub number-requires : goal.number-requires
number-requires c = let g = good_of _ _ _ (sym c.in_ok-check_place.ensures) in
    (small_of g.0 _ c.shifts_of-s.ensures, omega (arith, g.0.tall.high), omega (arith, g.0.wide.high))

pub overflow_cast-result : goal.overflow_cast-result
overflow_cast-result c = let g = good_of _ _ _ (sym c.in_ok-check_place.ensures) in
    record { fits = omega (arith, number_of c.args.picture _ _ c.args.r.0 c.args.c.0 c.shifts_of-s.ensures c.number.ensures, number_small g.0 g.1.0 g.1.1) }

pub returns : goal.returns
unfolding decode_order
returns c = simp (number_of c.args.picture _ _ c.args.r.0 c.args.c.0 c.shifts_of-s.ensures c.number.ensures, ← c.in_ok-check_place.ensures)
