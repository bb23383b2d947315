-- `planar_dc::planar_n` meets its contract. The rows of planar: the loop keeps an equation with `rows`, whose samples are the standard's (`planar_mix`).
use mathlib.Core.Path.{◌∙◌}
use native.Mathlib.Omega.{arith}
use borrow.Author.Rules.{rules}
use Rattle.laws.specs.FillLaws.{rows_none, rows_more, rows_done, rows_same}
use Rattle.h265.specs.Notation.{from_rows}
use Rattle.predict.specs.planar_dc.Text.{planar_mix}
use Rattle.predict.proofs.planar_dc.planar_n.Goals as goal

pub loop-row-init : goal.loop-row-init
loop-row-init c = (search rules, (search rules, rows_none _ _ _))

pub loop-row-preserved : goal.loop-row-preserved
loop-row-preserved c = (search rules, (search rules, c.planar_line.ensures ∙ rows_more _ _ _ _ c.loop-row.invariant.1.1))

pub returns : goal.returns
returns c = let a = c.args in
    let r = c.requires.0 in
    rows_done _ _ _ c.loop-row.invariant.0 c.loop-row-test.false c.loop-row.invariant.1.1
    ∙ rows_same _ _ a.n a.n a.pred.now (λ y x hy hx. planar_mix a.n r.size (from_rows 0 a.above.now a.left.now) y x) (omega arith)
