-- `angular::vertical` meets its contract. Its references, then all of its rows. Assumes nothing.
use mathlib.Core.Path.{◌∙◌}
use Rattle.predict.specs.angular.Parts.{laid_block}
use Rattle.predict.proofs.angular.vertical.Goals as goal

pub returns : goal.returns
returns c = let a = c.before.before.before.before.before.before.before.before.before.before.before.before.before.args in
    let p = c.before.before.before.before.before.before.before.before.before.before.before.before.before.requires in
    rw c.references.ensures at c.lines.ensures ∙ laid_block a.corner a.main.now a.side.now a.n p.0 a.refs.now a.d a.pred.now p.1.0 p.1.1.1.1.1
