-- What a served block holds is the standard's, 8.4.4.2.1: chroma from its neighbours as they are, luma from rows that are smoothed
-- where the rule says. Rests on the modes' laws and on smoothing.
use Rattle.std.specs.Prelude.{◌≡◌, Bool, cond, List, ℕ, ◌≤◌}
use Rattle.std.proofs.Math.Path.{refl}
use Rattle.std.proofs.Common.{sym, ◌∙◌, arith}
use Rattle.std.proofs.Math.Bool.{true, false}
use Rattle.laws.specs.Fill.{block}
use Rattle.laws.specs.FillLaws.{rows_same}
use Rattle.domain.specs.Facts.{Size, size_small}
use Rattle.h265.specs.Notation.{Neighbours}
use Rattle.h265.specs.Setting.{Component, luma_at, first_edition, first_edition_strong}
use Rattle.h265.specs.Filtering.{filter_flag, filtered}
use Rattle.h265.specs.Prediction.{filters, prepared, pred_samples}
use Rattle.h265.specs.Mean.{Agree}
use Rattle.domain.specs.declared.rows.Rows.{Rows}
use Rattle.domain.specs.rows.Neighbours.{neighbours_of}
use Rattle.smooth.specs.Smoothing.{smoothed}
use Rattle.smooth.specs.Standard.{is_standard}
use Rattle.predict.specs.luma_rows.LumaRows.{prepared_rows}
use Rattle.predict.specs.modes.Modes.{predicted_by_mode, plain, is_by_mode, by_mode_alone}

-- chroma of the first edition; how it is sampled, here 4:2:0, plays no part once the neighbours are there
abbrev pub chroma_at : ℕ → Component
chroma_at bits = record { luma = false; bits = bits; sub_width = 2; sub_height = 2; full = false }

-- chroma, however it is sampled, is predicted with nothing filtered
pub chroma_plain : (c : Component) (strong : Bool) (n mode : ℕ) (nb : Neighbours) (x y : ℕ) → c.luma ≡ false → c.full ≡ false
    → pred_samples c (first_edition strong) n mode nb x y ≡ plain c.bits n mode nb x y
unfolding prepared filters
chroma_plain c strong n mode nb x y p q = is_by_mode c (first_edition strong) n mode nb x y ∙ rw (p, q)

module _ (bits n mode : ℕ) (s : Size n) (d : List ℕ) where
  pub chroma-block : (nb : Neighbours) → block (λ (y x : ℕ). predicted_by_mode bits false false n mode nb x y) n d
      ≡ block (λ (y x : ℕ). pred_samples (chroma_at bits) first_edition_strong n mode nb x y) n d
  chroma-block nb =
      let h = size_small n s in
      rows_same _ _ n n d (λ y x hy hx. sym (chroma_plain (chroma_at bits) true n mode nb x y refl refl)) (omega arith)

  -- luma's rows are the neighbours that the standard prepares, as far as a sample reads
  rows_agree : (rows : Rows) → Agree n (neighbours_of (prepared_rows bits n mode rows))
      (prepared (luma_at bits) first_edition_strong n mode (neighbours_of rows))
  unfolding prepared_rows prepared filters
  rows_agree rows = go (filter_flag n mode) where
    go : (t : Bool) → Agree n (neighbours_of (cond t (smoothed true bits n rows.corner rows.above rows.left) rows))
        (cond t (filtered true bits n (neighbours_of rows)) (neighbours_of rows))
    go true = is_standard true bits n rows.corner rows.above rows.left (size_small n s).1
    go false = record { corner = refl; above = λ i h. refl; left = λ i h. refl }

  pub luma-block : mode ≤ 34 → (rows : Rows) → block
      (λ (y x : ℕ). predicted_by_mode bits true true n mode (neighbours_of (prepared_rows bits n mode rows)) x y) n d
      ≡ block (λ (y x : ℕ). pred_samples (luma_at bits) first_edition_strong n mode (neighbours_of rows) x y) n d
  luma-block m rows =
      let h = size_small n s in
      rows_same _ _ n n d
      (λ y x hy hx. rw (is_by_mode (luma_at bits) first_edition_strong n mode (neighbours_of rows) x y)
      (by_mode_alone n mode s m x y hx hy bits true true _ _ (rows_agree rows)))
      (omega arith)
