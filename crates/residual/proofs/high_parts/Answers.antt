-- `residual::high_parts` meets its contract. The loop's invariant: as long as nothing is found, the residuals passed are in range.
-- Assumes nothing.
use Rattle.std.proofs.Common.{get_or, pos, FitsSigned, sym, ◌∙◌, rules, to_z-of_z}
use Rattle.std.specs.Int.{w32}
use Rattle.residual.specs.Narrow.{narrow_in_range}
use Rattle.residual.specs.Laws.{none_in, one_more, both_none}
use Rattle.residual.proofs.high_parts.Goals as goal

pub loop-r-init : goal.loop-r-init
loop-r-init c = λ e. sym (none_in _)

pub loop-r-preserved : goal.loop-r-preserved
loop-r-preserved c = let l = c.loop-r in
    let rs = c.args.residual.now in
    let fits : FitsSigned w32 (get_or rs l.r-index (pos 0)) = record { sfits = search rules } in
    let is = rw (to_z-of_z {w = w32} fits) at c.high_part-parts.ensures in λ e.
    let o = both_none l.parts c.high_part-parts.result e in
    sym (one_more rs l.r-index (sym (l.invariant o.0)) (sym (narrow_in_range (get_or rs l.r-index (pos 0)) fits (sym is ∙ o.1))))
