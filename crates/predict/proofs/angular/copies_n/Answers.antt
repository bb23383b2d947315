-- `angular::copies_n` meets its contract. The loop makes the block row by row; with no fraction a row is copied. Assumes nothing.
use mathlib.Core.Path.{◌∙◌}
use Prim.Native.Nat.{◌+◌, ◌*◌}
use native.Mathlib.Omega.{arith}
use Rattle.laws.specs.Weigh.{row_room}
use Rattle.laws.specs.FillLaws.{rows_none, rows_more}
use Rattle.predict.specs.angles.Starts.{line_start, fraction_of}
use Rattle.predict.specs.angular.Reach.{copy_within, copied, no_fraction}
use borrow.Author.Rules.{rules}
use Rattle.predict.proofs.angular.copies_n.Goals as goal

pub loop-r-init : goal.loop-r-init
loop-r-init c = (search rules, (search rules, rows_none _ _ _))

pub through-requires : goal.through-requires
through-requires c = let a = c.args in
    let p = c.requires in
    let r = c.loop-r.r in
    let t = c.loop-r-test.true in
    let w = copy_within a.b a.e (a.first + r) a.n p.1.0.base p.1.0.size (omega arith) p.1.0.angle in
    let h = row_room r a.n (omega arith) in
    search rules

pub loop-r-preserved : goal.loop-r-preserved
loop-r-preserved c = let a = c.args in
    let r = c.loop-r.r in
    let made = rw c.start.ensures at c.through.ensures in
    (search rules, (search rules, made ∙ copied a.refs.now (line_start a.b a.e (a.first + r)) (fraction_of a.e (a.first + r)) (r * a.n) a.n _ (no_fraction a.e (a.first + r) c.requires.0) ∙ rows_more _ _ _ _ c.loop-r.invariant.1.1))
