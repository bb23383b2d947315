-- `cells::ctus_of` meets its contract, side by side. Assumes nothing.
use native.Mathlib.Omega.{arith}
use borrow.Author.Tests.{ne_eqb}
use Rattle.order.specs.cells.Row.{ctus_of}
use Rattle.order.proofs.cells.ctus_of.Goals as goal

pub returns-in-16 : goal.returns-in-16
unfolding ctus_of
returns-in-16 c = rw c.in-16.is (omega arith)

pub returns-in-32 : goal.returns-in-32
unfolding ctus_of
returns-in-32 c = rw c.in-32.is (omega arith)

pub returns-in_default : goal.returns-in_default
unfolding ctus_of
returns-in_default c = rw (ne_eqb c.args.ctu 16 c.in_default.in_default-own.rest.0.1, ne_eqb c.args.ctu 32 c.in_default.in_default-own.rest.1) (omega arith)
