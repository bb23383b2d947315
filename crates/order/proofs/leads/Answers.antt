-- `order::leads` meets its contract: all samples before i hold, a group more each turn.
use mathlib.Core.Path.{sym, ap, ◌∙◌}
use Prim.Native.Nat.{ℕ}
use lib.Dec.{ltb}
use borrow.Author.Tests.{lt-ltb, le-ltb}
use native.Mathlib.Omega.{arith}
use Rattle.order.specs.Walk.{walked_more, walk_stops, walk_ends}
use Rattle.order.proofs.leads.Goals as goal

pub returns-then-number-limit : goal.returns-then-number-limit
returns-then-number-limit c = walk_stops _ _ _ _ _ _ _ _ c.requires _ c.loop-i.invariant c.loop-i-test.true (ap (λ (v : ℕ). ltb v c.args.limit) (sym c.number.ensures) ∙ le-ltb _ _ c.if-number-limit.true)

pub loop-i-preserved : goal.loop-i-preserved
loop-i-preserved c = walked_more _ _ _ _ _ _ _ _ c.requires _ c.loop-i.invariant c.loop-i-test.true (ap (λ (v : ℕ). ltb v c.args.limit) (sym c.number.ensures) ∙ lt-ltb _ _ c.if-number-limit.false)

pub returns-else-number-limit : goal.returns-else-number-limit
returns-else-number-limit c =
    let here = ap (λ (v : ℕ). ltb v c.args.limit) (sym c.number.ensures) ∙ lt-ltb _ _ c.if-number-limit.false in
    let next = walked_more _ _ _ _ _ _ _ _ c.requires _ c.loop-i.invariant c.loop-i-test.true here in
    walk_ends _ _ _ _ _ _ _ _ c.requires _ next (omega arith)

pub returns : goal.returns
returns c = walk_ends _ _ _ _ _ _ _ _ c.requires _ c.loop-i.invariant c.loop-i-test.false
