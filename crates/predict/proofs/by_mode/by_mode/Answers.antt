-- `by_mode::by_mode` meets its contract. The work of each arm is the mode's block. Rests on the work of each kind.
use mathlib.Core.Path.{◌∙◌}
use Rattle.predict.specs.modes.Modes.{planar_made, dc_made, angular_made}
use Rattle.predict.proofs.by_mode.by_mode.Goals as goal

pub returns-in-0 : goal.returns-in-0
returns-in-0 c = let a = c.args in
    c.planar_block.ensures ∙ planar_made a.bits a.n a.mode a.corner a.edge a.edge a.above.now a.left.now a.pred.now c.in-0.is

pub returns-in-1 : goal.returns-in-1
returns-in-1 c = let a = c.args in
    c.dc_block.ensures ∙ dc_made a.bits a.n a.mode a.corner a.edge a.edge a.above.now a.left.now a.pred.now c.in-1.is

pub returns-in_default : goal.returns-in_default
returns-in_default c = let a = c.args in
    let m = c.in_default.in_default-own.rest in
    c.angular_block.ensures ∙ angular_made a.bits a.n a.mode a.corner a.edge a.edge a.above.now a.left.now a.pred.now m.0.1 m.1
