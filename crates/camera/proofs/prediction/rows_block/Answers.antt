-- `prediction::rows_block` meets its contract: the rows are read, and the block is made of them. Rests on `mode_block` and `read_row`.
use mathlib.Core.Path.{◌∙◌}
use Rattle.camera.specs.prediction.Blocks.{read_block}
use Rattle.camera.proofs.prediction.rows_block.Goals as goal

pub returns : goal.returns
returns c = let a = c.args in
    let f = c.requires in
    c.mode_block.ensures
    ∙ read_block a.bits a.n a.mode a.corner a.edge a.above.now a.left.now a.pred.now f.0 f.1.0 f.1.1.0 c.read_row.ensures c.read_row-2.ensures
