-- The left row from its far end. Assumes nothing.
use Rattle.std.proofs.Common.{◌≡◌, ◌+◌, ◌-◌, subst, ℕ, arith}
use Rattle.refs.specs.substitution.Line.{carried_start, carried_done}
use Rattle.refs.specs.substitution.FarEnd.{down_none, down_all}
use Rattle.refs.specs.substitution.InPlace.{LeftSoFar, left_turn}
use Rattle.refs.proofs.substitution.fill_left.Goals as goal

pub loop-i-init : goal.loop-i-init
loop-i-init c = let a = c.args in
    let begun : 0 ≡ a.e - a.e = omega arith in
    subst (λ (k : ℕ). LeftSoFar a.has.now a.row.now a.e a.start k a.start a.row.now) begun (carried_start _ _ _, down_none _ _ _)

pub loop-i-preserved : goal.loop-i-preserved
loop-i-preserved c = let a = c.args in
    let k = c.loop-i in
    let on : a.e - k.i + 1 ≡ a.e - (k.i - 1) = omega arith in
    subst (λ (p : ℕ). LeftSoFar a.has.now a.row.now a.e a.start p c.settle_at-carried.result c.settle_at-carried.new.row) on
    (left_turn a.has.now a.start a.row.now a.e k.i k.auto.i k.invariant c.settle_at-carried.ensures.0 c.settle_at-carried.ensures.1)

pub returns-2 : goal.returns-2
returns-2 c = let a = c.args in
    let k = c.loop-i in
    let e = c.settle_at-carried.ensures in
    let all = left_turn a.has.now a.start a.row.now a.e k.i k.auto.i k.invariant e.0 e.1 in
    (carried_done _ _ _ (omega arith) (omega arith) all.0, down_all _ _ _ (omega arith) (omega arith) all.1)
