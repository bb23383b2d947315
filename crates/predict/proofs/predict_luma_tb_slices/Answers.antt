-- `predict::predict_luma_tb_slices` meets its contract. The used rows are what the standard prepares, as far as a sample reads. Rests on
-- `prepared_rows` and `by_mode`.
use Rattle.std.proofs.Common.{rules, arith, sym, ap, ◌∙◌, ◌≡◌, refl, ℕ, true, length}
use Rattle.laws.specs.Fill.{block}
use Rattle.domain.specs.Facts.{size_small}
use Rattle.domain.specs.declared.rows.Rows.{Rows}
use Rattle.domain.specs.rows.Neighbours.{neighbours_of}
use Rattle.predict.specs.modes.Modes.{predicted_by_mode}
use Rattle.predict.specs.refusals.Refusals.{Lengths, lengths}
use Rattle.predict.specs.by_mode.Door.{given, side, highest}
use Rattle.predict.specs.Contents.{luma-block}
use Rattle.predict.proofs.predict_luma_tb_slices.Goals as goal
use Rattle.predict.proofs.predict_luma_tb_slices.Goals.{Start}

abbrev lent_by : Start → Lengths
lent_by s =
    let a = s.args in
    lengths 65 65 (length a.pred.now) (length a.refs.now) (length a.indices.now) (length a.fractions.now)

pub by_mode-requires : goal.by_mode-requires
by_mode-requires c = let g = given _ _ _ (lent_by (goal.at.by_mode-requires c).Start) (sym c.in_ok-check_predict.ensures) in
    let used = c.prepared_rows-used.result in
    let up : length used.above ≡ 65 = search rules in
    let down : length used.left ≡ 65 = search rules in
    let small = size_small _ (side g.block) in
    record { block = g.block; above_long = omega arith; left_long = omega arith; room = g.room; refs_long = g.refs_long }

pub returns : goal.returns
returns c = let a = c.args in
    let g = given a.bits a.n a.mode (lent_by (goal.at.returns c).Start) (sym c.in_ok-check_predict.ensures) in
    let made = λ (u : Rows). block (λ (y x : ℕ). predicted_by_mode a.bits true true a.n a.mode (neighbours_of u) x y) a.n a.pred.now in (
      c.in_ok-check_predict.ensures,
      (
        c.by_mode.ensures ∙ ap made c.prepared_rows-used.ensures
            ∙ luma-block a.bits a.n a.mode (side g.block) a.pred.now (highest g.block) a.rows,
        λ q. absurd (q refl),
      ),
    )
