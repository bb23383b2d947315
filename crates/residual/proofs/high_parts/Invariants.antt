use Rattle.std.proofs.Common.{◌≡◌, true}
use Rattle.residual.specs.Residual.{all_in_range}
use Rattle.residual.proofs.high_parts.Given as goal

abbrev pub invariant-loop-r : goal.invariant-loop-r
invariant-loop-r l = l.parts ≡ 0 → all_in_range l.residual l.r-index ≡ true
