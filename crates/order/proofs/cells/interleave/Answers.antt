-- `cells::interleave` meets its contract: the standard's sum is that of its two coordinates. Assumes nothing.
use native.Mathlib.Omega.{arith}
use Rattle.order.specs.cells.Spread.{interleaved_spread}
use Rattle.order.proofs.cells.interleave.Goals as goal

pub returns : goal.returns
returns c = let a = c.args in
    omega (arith, interleaved_spread 4 a.x a.y, c.spread_of.ensures.0, c.spread_of-2.ensures.0)
