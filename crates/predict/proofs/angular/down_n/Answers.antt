-- `angular::down_n` meets its contract. The loop makes the block row by row; a row's references stay within 2n. Assumes nothing.
use mathlib.Core.Path.{◌∙◌}
use Prim.Native.Nat.{◌+◌}
use native.Mathlib.Omega.{arith}
use Rattle.laws.specs.Weigh.{row_room}
use Rattle.laws.specs.FillLaws.{rows_none, rows_more}
use Rattle.predict.specs.angular.Reach.{mix_within}
use borrow.Author.Rules.{rules}
use Rattle.predict.proofs.angular.down_n.Goals as goal

pub loop-r-init : goal.loop-r-init
loop-r-init c = (search rules, (search rules, rows_none _ _ _))

pub row-requires : goal.row-requires
row-requires c = let a = c.args in
    let p = c.requires in
    let r = c.loop-r.r in
    let t = c.loop-r-test.true in
    let w = mix_within a.b a.e (a.first + r) a.n p.1.0.base p.1.0.size (omega arith) p.0 in
    let h = row_room r a.n (omega arith) in
    search rules

pub loop-r-preserved : goal.loop-r-preserved
loop-r-preserved c = let made = rw (c.start.ensures, c.fraction.ensures.0) at c.row.ensures in
    (search rules, (search rules, made ∙ rows_more _ _ _ _ c.loop-r.invariant.1.1))
