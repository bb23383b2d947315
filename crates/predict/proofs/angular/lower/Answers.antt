-- `angular::lower` meets its contract. The two kinds of reference up to the corner. Assumes nothing.
use Rattle.predict.specs.angular.Reach.{ref_corner, ref_side}
use Rattle.predict.proofs.angular.lower.Goals as goal

pub returns-then-s-eq0 : goal.returns-then-s-eq0
returns-then-s-eq0 c = λ main. ref_corner _ _ _ c.requires.0 c.if-s-eq0.true

pub returns : goal.returns
returns c = λ main. ref_side _ _ _ c.requires.0 c.if-s-eq0.false
