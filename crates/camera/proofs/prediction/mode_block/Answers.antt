-- `prediction::mode_block` meets its contract: each kind of mode. Rests on the doors.
use mathlib.Core.Path.{◌∙◌}
use Rattle.predict.specs.modes.Modes.{planar_made, dc_made, angular_made}
use Rattle.camera.specs.prediction.Blocks.{did, flat_serves}
use Rattle.camera.proofs.prediction.mode_block.Goals as goal

pub returns-in-0 : goal.returns-in-0
returns-in-0 c = let a = c.args in
    let f = c.requires in
    let p = c.predict_planar_into.ensures in
    did _ _ _ (p.0 ∙ flat_serves f.0 f.1) p.1
    ∙ planar_made a.bits a.n a.mode a.corner a.edge a.edge a.above.now a.left.now a.pred.now c.in-0.is

pub returns-in-1 : goal.returns-in-1
returns-in-1 c = let a = c.args in
    let f = c.requires in
    let p = c.predict_dc_into.ensures in
    did _ _ _ (p.0 ∙ flat_serves f.0 f.1) p.1
    ∙ dc_made a.bits a.n a.mode a.corner a.edge a.edge a.above.now a.left.now a.pred.now c.in-1.is

pub returns-in_default : goal.returns-in_default
returns-in_default c = let a = c.args in
    let m = c.in_default.in_default-own.rest in
    c.angular_block.ensures
    ∙ angular_made a.bits a.n a.mode a.corner a.edge a.edge a.above.now a.left.now a.pred.now m.0.1 m.1
