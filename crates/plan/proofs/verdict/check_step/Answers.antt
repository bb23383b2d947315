-- `verdict::check_step` meets its contract: a turn of the check. A block that is not refused tells that the sums fit.
use Rattle.std.proofs.Common.{sym, arith, ne_eqb}
use Rattle.domain.specs.Refused.{never_0}
use Rattle.plan.specs.verdict.Standing.{check_block, step_fits}
use Rattle.plan.proofs.verdict.check_step.Goals as goal

pub overflow_add-result : goal.overflow_add-result
overflow_add-result c = record { fits = omega (arith, step_fits c.requires.0 c.args.b c.args.covered (sym c.in-Ok.ensures)) }

pub returns-in-Ok : goal.returns-in-Ok
unfolding check_block
returns-in-Ok c = simp (← c.in-Ok.ensures)

pub returns-in-Err : goal.returns-in-Err
unfolding check_block
returns-in-Err c = simp (← c.in-Err.ensures, ne_eqb _ 0 (never_0 c.in-Err.why))
