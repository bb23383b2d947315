-- H.265's prediction of a placed block is the prediction from the rows that the luma gather gives. Rests on the gather's agreement with
-- 8.4.4.2.2 and on prediction's reading no entry from 2n on.
use Rattle.std.specs.Prelude.{◌≡◌, true, List, ℕ, ◌+◌, ◌*◌, ◌%◌, ◌≤◌, ◌<◌, length}
use Rattle.std.proofs.Math.Path.{refl, sym}
use borrow.Author.Tests.{le-leb, eq-eqb}
use Rattle.h265.specs.Setting.{luma_at, first_edition_strong}
use Rattle.h265.specs.Prediction.{pred_samples, predicted}
use Rattle.domain.specs.Domain.{depth_ok, size_ok}
use Rattle.domain.specs.Facts.{Depth, at_size, at_depth, size_small}
use Rattle.order.specs.Good.{Good}
use Rattle.domain.specs.rows.Neighbours.{neighbours_of}
use Rattle.refs.specs.declared.LumaRefGeometry.{LumaRefGeometry}
use Rattle.refs.specs.Door.{luma_no, luma_rows}
use Rattle.refs.specs.standard.Standard.{luma_standard}
use Rattle.predict.specs.modes.Modes.{pred_alone}
use Rattle.plan.specs.declared.tiling.Block.{Block}
use Rattle.plan.specs.tiling.Tiling.{picture_of, Placed}
use Rattle.plan.specs.tiling.Tests.{good_picture}
use Rattle.walk.specs.declared.checks.Still.{Still}
use Rattle.walk.specs.block.Predicted.{predicted_at}

-- a block as the gather sees it
abbrev pub geometry_of : Still → Block → LumaRefGeometry
geometry_of s b =
    record {
      bits = s.bits;
      picture = picture_of s.frame;
      block_row = record { 0 = b.row };
      block_col = record { 0 = b.col };
      n = b.side;
    }

module _ (s : Still) (b : Block) (good : Good (picture_of s.frame)) (placed : Placed s.frame b) (depth : Depth s.bits) where
  -- the gather refuses no placed block
  pub geo_fine : (plane : List ℕ) → length plane ≡ s.frame.height * s.frame.width → luma_no (length plane) (geometry_of s b) ≡ 0
  unfolding luma_no
  geo_fine plane long =
      simp (
        at_depth (λ (k : ℕ). depth_ok k ≡ true) refl refl refl s.bits depth,
        at_size (λ (k : ℕ). size_ok k ≡ true) refl refl refl refl b.side placed.size,
        good_picture s.frame good,
        eq-eqb (length plane) (s.frame.height * s.frame.width) long,
        eq-eqb (b.row % b.side) 0 placed.row_at,
        eq-eqb (b.col % b.side) 0 placed.col_at,
        le-leb (b.row + b.side) s.frame.height placed.row_in,
        le-leb (b.col + b.side) s.frame.width placed.col_in,
        le-leb b.side s.frame.ctu placed.small,
        le-leb 4 b.side (size_small b.side placed.size).0,
      )

  -- the prediction from the gathered rows
  pub bridge : (plane : List ℕ) → length plane ≡ s.frame.height * s.frame.width → b.mode ≤ 34 → (r c : ℕ) → r < b.side → c < b.side
      → predicted_at s b plane r c ≡ pred_samples (luma_at s.bits) first_edition_strong b.side b.mode
      (neighbours_of (luma_rows plane (geometry_of s b))) c r
  unfolding predicted_at predicted
  bridge plane long mode r c hr hc =
      sym (pred_alone (luma_at s.bits) first_edition_strong b.side b.mode c r _ _ placed.size mode hc hr
      (luma_standard plane (geometry_of s b) (geo_fine plane long)))
