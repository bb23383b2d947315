-- `planar_dc::dc_n` meets its contract. DC: the value everywhere (`plain`), and with the edge where the standard has one (`edged`).
use Prim.Native.Nat.{ℕ}
use mathlib.Core.Path.{sym, ◌∙◌}
use native.Mathlib.Omega.{arith}
use Rattle.laws.specs.FillLaws.{rows_flat}
use Rattle.h265.specs.Notation.{from_rows}
use Rattle.predict.specs.planar_dc.Text.{dc_mean}
use Rattle.predict.specs.planar_dc.Edge.{plain, edged}
use Rattle.predict.proofs.planar_dc.dc_n.Goals as goal

pub returns-then-filtered : goal.returns-then-filtered
returns-then-filtered c = let a = c.args in
    let pre = c.requires in
    let nb = from_rows 0 a.above.now a.left.now in
    let v = c.mean-value.result in
    let flat = c.flat_fill.ensures ∙ rows_flat (λ (y x : ℕ). v) a.n a.n a.pred.now in
    rw flat at c.edge.ensures
    ∙ edged a.filter_boundary a.n v nb a.pred.now (omega arith) (c.mean-value.ensures ∙ dc_mean a.n pre.0.0.size nb a.all pre.1) (sym c.filtered.ensures ∙ c.if-filtered.true)

pub returns-else-filtered : goal.returns-else-filtered
returns-else-filtered c = let a = c.args in
    let pre = c.requires in
    let nb = from_rows 0 a.above.now a.left.now in
    let v = c.mean-value.result in
    c.flat_fill.ensures ∙ rows_flat (λ (y x : ℕ). v) a.n a.n a.pred.now
    ∙ plain a.filter_boundary a.n v nb a.pred.now (omega arith) (c.mean-value.ensures ∙ dc_mean a.n pre.0.0.size nb a.all pre.1) (sym c.filtered.ensures ∙ c.if-filtered.false)
