use Rattle.std.proofs.Common.{◌≡◌}
use Rattle.residual.specs.Residual.{all_in_range}
use Rattle.residual.proofs.all_in_range.Given as goal

abbrev pub invariant-loop-r : goal.invariant-loop-r
invariant-loop-r l = l.ok ≡ all_in_range l.residual l.r-index
