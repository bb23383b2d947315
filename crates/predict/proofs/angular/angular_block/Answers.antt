-- `angular::angular_block` meets its contract. Each mode's block is the standard's. Assumes nothing.
use mathlib.Core.Path.{◌∙◌}
use native.Mathlib.Omega.{arith}
use Rattle.predict.specs.angular.Blocks.{text, steep, shallow}
use Rattle.predict.proofs.angular.angular_block.Goals as goal

pub returns-in-10 : goal.returns-in-10
returns-in-10 c = let a = c.args in
    let p = c.requires in
    rw c.in-10.is (c.pure_horizontal.ensures ∙ text a.corner a.above.now a.left.now a.bits a.n a.edge p.1.0 a.pred.now 10 (omega arith))

pub returns-in-26 : goal.returns-in-26
returns-in-26 c = let a = c.args in
    let p = c.requires in
    rw c.in-26.is (c.pure_vertical.ensures ∙ text a.corner a.above.now a.left.now a.bits a.n a.edge p.1.0 a.pred.now 26 (omega arith))

pub returns-then-mode-lt18 : goal.returns-then-mode-lt18
returns-then-mode-lt18 c = let a = c.args in
    let p = c.requires in
    c.horizontal.ensures ∙ shallow a.corner a.above.now a.left.now a.bits a.n a.edge p.1.0 a.pred.now a.mode p.1.1.1.0 p.1.1.0 c.if-mode-lt18.true c.in_default.in_default-own.rest.0.1

pub returns-else-mode-lt18 : goal.returns-else-mode-lt18
returns-else-mode-lt18 c = let a = c.args in
    let p = c.requires in
    c.vertical.ensures ∙ steep a.corner a.above.now a.left.now a.bits a.n a.edge p.1.0 a.pred.now a.mode p.1.1.1.0 c.if-mode-lt18.false c.in_default.in_default-own.rest.1
