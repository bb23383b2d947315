use Rattle.std.proofs.Common.{◌-◌}
use Rattle.plan.specs.tiling.Check.{ahead_by}
use Rattle.plan.specs.tiling.Ahead.{Counts}
use Rattle.plan.proofs.next_cell.cells_ahead.Given as goal

abbrev pub invariant-loop : goal.invariant-loop
invariant-loop l = Counts l.h l.w (ahead_by l.h l.w l.m 1 l.row l.col) l.row l.col l.s l.z (l.m - l.counter) l.y l.x
