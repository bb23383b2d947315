-- `order::shifts_of` meets its contract. A good picture's CTU and unit are powers of two.
use native.Mathlib.Omega.{arith}
use Rattle.order.specs.Good.{sized, shifts_are}
use Rattle.order.proofs.shifts_of.Goals as goal

pub overflow_sub-result : goal.overflow_sub-result
overflow_sub-result c = omega (arith, (sized c.requires).bounds, c.log2_of-unit.ensures, c.log2_of-ctb.ensures)

pub overflow_shr-result : goal.overflow_shr-result
overflow_shr-result c = omega (arith, (sized c.requires).bounds, c.log2_of-unit.ensures)

pub returns : goal.returns
returns c = shifts_are c.requires _ _ _ c.log2_of-unit.ensures c.log2_of-ctb.ensures c.ctus_of.ensures
