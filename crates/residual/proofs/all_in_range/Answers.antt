-- `residual::all_in_range` meets its contract. The loop's invariant: the flag says whether the residuals passed are in range.
-- Assumes nothing.
use Rattle.std.proofs.Common.{get_or, pos, FitsSigned, rules, to_z-of_z}
use Rattle.std.specs.Int.{w32}
use Rattle.residual.specs.Laws.{none_in, one_more}
use Rattle.residual.proofs.all_in_range.Goals as goal

pub loop-r-init : goal.loop-r-init
loop-r-init c = none_in _

pub loop-r-preserved : goal.loop-r-preserved
loop-r-preserved c = let l = c.loop-r in
    let rs = c.args.residual.now in
    let fits : FitsSigned w32 (get_or rs l.r-index (pos 0)) = record { sfits = search rules } in
    one_more rs l.r-index l.invariant (rw (to_z-of_z {w = w32} fits) at c.residual_ok-ok.ensures)
