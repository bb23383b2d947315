-- `block_rows::walk_rows` meets its contract. The loop's invariant: the rows passed are stored. Rests on `walk_row`.
use Rattle.std.proofs.Common.{◌∙◌}
use Rattle.laws.specs.Paint.{paint_none, paint_more}
use Rattle.walk.proofs.block_rows.walk_rows.Goals as goal

pub loop-r-init : goal.loop-r-init
loop-r-init c = (paint_none _ _ _ _ _, paint_none _ _ _ _ _)

pub loop-r-preserved : goal.loop-r-preserved
loop-r-preserved c =
    let l = c.loop-r in
    let e = c.walk_row.ensures in
    (e.0 ∙ paint_more _ _ _ _ _ l.r l.invariant.0, e.1 ∙ paint_more _ _ _ _ _ l.r l.invariant.1)
