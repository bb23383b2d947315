-- `order::cell_number` meets its contract. `room` bounds every product.
use native.Mathlib.Omega.{arith}
use Rattle.order.specs.Spread.{room, number_is, four_low}
use Rattle.order.proofs.cell_number.Goals as goal

pub overflow_add-result : goal.overflow_add-result
overflow_add-result c = let a = c.args in
    let p = c.requires in
    record { fits = omega (arith, room a.k a.ctus a.x a.y a.cells p.0 p.1 p.2 p.3 p.4, c.interleave.ensures, four_low c.inner-2.result c.inner.result) }

pub returns : goal.returns
returns c = let a = c.args in
    let p = c.requires in
    number_is a.k a.ctus a.x a.y a.cells _ _ _ p.0 p.1 c.inner.ensures c.inner-2.ensures c.interleave.ensures
