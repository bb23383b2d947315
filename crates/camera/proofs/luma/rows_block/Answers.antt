-- `luma::rows_block` meets its contract: the rows are read, and the door serves them. Rests on `read_rows` and on the door.
use mathlib.Core.Path.{◌∙◌}
use Rattle.camera.specs.prediction.Blocks.{did}
use Rattle.camera.specs.prediction.Luma.{luma_serves, luma_read}
use Rattle.camera.proofs.luma.rows_block.Goals as goal

pub returns : goal.returns
returns c = let a = c.args in
    let f = c.requires in
    let p = c.predict_luma_tb_slices.ensures in
    did _ _ _ (p.0 ∙ luma_serves f.0 f.1.1.1) p.1.0
    ∙ luma_read a.bits a.n a.mode a.corner a.above.now a.left.now a.pred.now f.0 f.1.0 f.1.1.0 _ c.read_rows-rows.ensures
