-- `calls::advance` meets its contract: refused where more is done than there is, or granted.
use Rattle.std.proofs.Common.{arith, le-leb}
use Rattle.std.proofs.lemmas.Bool.{lt-leb}
use Rattle.walk.specs.calls.Steps.{step_of}
use Rattle.walk.proofs.calls.advance.Goals as goal

pub returns-then-p-count : goal.returns-then-p-count
unfolding step_of
returns-then-p-count c = simp (lt-leb _ _ c.if-p-count.true)

pub returns : goal.returns
unfolding step_of
returns c = simp (le-leb c.args.p.done c.args.count (omega (arith, c.if-p-count.false)), c.doing_of-did.ensures)
