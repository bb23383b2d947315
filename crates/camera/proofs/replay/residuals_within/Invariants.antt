use Rattle.std.proofs.Common.{◌≡◌}
use Rattle.std.specs.Prelude.{pos}
use Rattle.octets.specs.Bytes.{residuals_of}
use Rattle.samples.specs.deltas.Deltas.{residual_within}
use Rattle.laws.specs.Every.{pass_to}
use Rattle.camera.proofs.replay.residuals_within.Given as goal

abbrev pub invariant-loop-i : goal.invariant-loop-i
invariant-loop-i l = l.ok ≡ pass_to (residual_within l.limit) (pos 0) (residuals_of l.residuals) l.i
