-- `replay::check_residuals` meets its contract: residuals that keep the tighter limit keep the other. Assumes nothing.
use mathlib.Core.Path.{sym, ◌∙◌}
use native.Mathlib.Omega.{arith}
use Rattle.octets.specs.Bytes.{residuals_of}
use Rattle.walk.specs.checks.Laws.{all_within}
use Rattle.camera.proofs.replay.check_residuals.Goals as goal

pub returns-then-residuals_within : goal.returns-then-residuals_within
returns-then-residuals_within c = let a = c.args in
    all_within a.largest (omega (arith, c.ranges.largest)) (residuals_of a.residuals.now) (sym c.residuals_within.ensures ∙ c.if-residuals_within.true)
