-- The row above from its first entry. Assumes nothing.
use Rattle.std.proofs.Common.{arith}
use Rattle.laws.specs.FillLaws.{fill_none, fill_done}
use Rattle.refs.specs.substitution.Line.{carried_start}
use Rattle.refs.specs.substitution.InPlace.{above_turn}
use Rattle.refs.proofs.substitution.fill_above.Goals as goal

pub loop-i-init : goal.loop-i-init
loop-i-init c = (carried_start _ _ _, fill_none _ _)

pub loop-i-preserved : goal.loop-i-preserved
loop-i-preserved c = let k = c.loop-i in
    let a = c.args in
    above_turn a.has.now a.start a.row.now k.i k.invariant.0 k.invariant.1 c.settle_at-carried.ensures.0 c.settle_at-carried.ensures.1

pub returns-2 : goal.returns-2
returns-2 c = let k = c.loop-i in
    let a = c.args in
    let e = c.settle_at-carried.ensures in
    fill_done _ _ (omega arith) (omega arith) (above_turn a.has.now a.start a.row.now k.i k.invariant.0 k.invariant.1 e.0 e.1).1
