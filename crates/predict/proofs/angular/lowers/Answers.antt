-- `angular::lowers` meets its contract. The loop makes a run of references, one a turn, whatever the main row is. Assumes nothing.
use borrow.Author.Rules.{rules}
use Rattle.laws.specs.FillLaws.{run_none, run_more, run_done}
use Rattle.predict.proofs.angular.lowers.Goals as goal

pub loop-i-init : goal.loop-i-init
loop-i-init c = (search rules, (search rules, λ main. run_none _ _ _))

pub loop-i-preserved : goal.loop-i-preserved
loop-i-preserved c = (search rules, (search rules, λ main. run_more _ _ _ (c.loop-i.invariant.1.1 main) (c.lower.ensures main)))

pub returns : goal.returns
returns c = λ main. run_done _ _ _ c.loop-i.invariant.0 c.loop-i-test.false (c.loop-i.invariant.1.1 main)
