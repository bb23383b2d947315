-- `checks::check_residuals` meets its contract: residuals that keep the tighter limit keep the other. Assumes nothing.
use mathlib.Core.Path.{sym, ◌∙◌}
use native.Mathlib.Omega.{arith}
use Rattle.walk.specs.checks.Laws.{all_within}
use Rattle.walk.proofs.checks.check_residuals.Goals as goal

pub returns-then-residuals_within : goal.returns-then-residuals_within
returns-then-residuals_within c = let a = c.args in
    all_within a.largest (omega (arith, c.ranges.largest)) a.residuals.now (sym c.residuals_within.ensures ∙ c.if-residuals_within.true)
