-- `order::inside_before` meets its contract, test by test.
use mathlib.Core.Path.{sym, ap, ◌∙◌}
use Prim.Native.Nat.{ℕ}
use native.Mathlib.Omega.{arith}
use lib.Dec.{ltb}
use borrow.Author.Tests.{ltb-true}
use Rattle.laws.specs.Choose.{both_true}
use Rattle.order.specs.Order.{before}
use Rattle.order.specs.Good.{small_of, number_of}
use Rattle.order.proofs.inside_before.Goals as goal

pub returns-then-not-inside : goal.returns-then-not-inside
unfolding before
returns-then-not-inside c = rw (sym c.inside.ensures ∙ c.if-not-inside.true)

pub number-requires : goal.number-requires
number-requires c = let a = c.args in
    let g = c.requires in
    let h = both_true (ltb a.row a.p.height) (ltb a.col a.p.width) (sym c.inside.ensures ∙ c.if-not-inside.false) in
    (small_of g _ c.shifts_of.ensures, omega (arith, g.tall.high, ltb-true a.row a.p.height h.0), omega (arith, g.wide.high, ltb-true a.col a.p.width h.1))

pub returns : goal.returns
unfolding before
returns c = let a = c.args in
    rw (sym c.inside.ensures ∙ c.if-not-inside.false) (ap (λ (v : ℕ). ltb v a.limit) (number_of a.p _ _ a.row a.col c.shifts_of.ensures c.number.ensures))
