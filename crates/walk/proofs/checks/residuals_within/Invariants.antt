use Rattle.std.proofs.Common.{◌≡◌}
use Rattle.std.specs.Prelude.{pos}
use Rattle.samples.specs.deltas.Deltas.{residual_within}
use Rattle.laws.specs.Every.{pass_to}
use Rattle.walk.proofs.checks.residuals_within.Given as goal

abbrev pub invariant-loop-residual : goal.invariant-loop-residual
invariant-loop-residual l = l.ok ≡ pass_to (residual_within l.limit) (pos 0) l.residuals l.residual-index
