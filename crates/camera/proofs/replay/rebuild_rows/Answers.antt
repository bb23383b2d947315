-- `replay::rebuild_rows` meets its contract. The loop's invariant: the rows passed are stored. Rests on `rebuild_row`.
use Rattle.std.proofs.Common.{◌∙◌}
use Rattle.laws.specs.Paint.{paint_none, paint_more}
use Rattle.camera.proofs.replay.rebuild_rows.Goals as goal

pub loop-r-init : goal.loop-r-init
loop-r-init c = paint_none _ _ _ _ _

pub loop-r-preserved : goal.loop-r-preserved
loop-r-preserved c = c.rebuild_row.ensures ∙ paint_more _ _ _ _ _ c.loop-r.r c.loop-r.invariant
