-- `angular::references` meets its contract. By angle, laid or as they were. Assumes nothing.
use mathlib.Core.Path.{◌∙◌}
use Rattle.predict.specs.angular.Parts.{laid_low, laid_high}
use Rattle.predict.proofs.angular.references.Goals as goal

pub returns-then-d-lt8 : goal.returns-then-d-lt8
returns-then-d-lt8 c = let a = c.args in
    rw (c.turn.ensures, c.bend.ensures) at c.build.ensures ∙ laid_low a.corner a.main.now a.side.now a.refs.now a.n a.d c.if-d-lt8.true

pub returns-else-d-lt8 : goal.returns-else-d-lt8
returns-else-d-lt8 c = let a = c.args in
    laid_high a.corner a.main.now a.side.now a.refs.now a.n a.d c.if-d-lt8.false
