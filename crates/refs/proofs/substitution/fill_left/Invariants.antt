use Rattle.std.proofs.Common.{◌-◌}
use Rattle.refs.specs.substitution.InPlace.{LeftSoFar}
use Rattle.refs.proofs.substitution.fill_left.Given as goal

abbrev pub invariant-loop-i : goal.invariant-loop-i
invariant-loop-i l = LeftSoFar l.has l.initial.row l.e l.start (l.e - l.i) l.carried l.row
