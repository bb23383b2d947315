use Rattle.laws.specs.Least.{FirstLeast}
use Rattle.choose.specs.Given.{sum_of}
use Rattle.choose.proofs.Search.least.Given as goal

abbrev pub invariant-loop-mode : goal.invariant-loop-mode
invariant-loop-mode l = FirstLeast (sum_of l.self) l.mode l.chosen l.best
