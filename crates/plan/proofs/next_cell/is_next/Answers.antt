-- `next_cell::is_next` meets its contract.
use native.Mathlib.Omega.{arith}
use Rattle.plan.specs.tiling.Check.{ahead}
use Rattle.plan.specs.tiling.Ahead.{asks}
use Rattle.plan.proofs.next_cell.is_next.Goals as goal

pub cells_ahead-requires : goal.cells_ahead-requires
cells_ahead-requires c = asks c.requires.0 _ _ _ c.requires.1 c.levels_of-m.ensures

pub overflow_mul-result : goal.overflow_mul-result
overflow_mul-result c = let a = asks c.requires.0 _ _ _ c.requires.1 c.levels_of-m.ensures in
    record { fits = omega (arith, c.cells_ahead.ensures, a.5) }

pub returns : goal.returns
unfolding ahead
returns c = simp (c.cells_ahead.ensures, c.levels_of-m.ensures)
