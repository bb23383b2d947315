-- Document 01, 'Plan, walk, replay': the prediction of one block of a still, from a plane in rows. It is H.265's own. Assumes nothing.
use Rattle.std.specs.Prelude.{ℕ, ◌+◌, ◌*◌, List, get_or}
use Rattle.h265.specs.Setting.{luma_at, first_edition_strong}
use Rattle.h265.specs.Prediction.{predicted}
use Rattle.order.specs.Order.{grid_of}
use Rattle.plan.specs.declared.tiling.Block.{Block}
use Rattle.plan.specs.tiling.Tiling.{picture_of}
use Rattle.walk.specs.declared.checks.Still.{Still}

-- the sample in row r and column c of a plane
abbrev pub sample_at : Still → List ℕ → ℕ → ℕ → ℕ
sample_at s plane r c = get_or plane (r * s.frame.width + c) 0

-- H.265's prediction of the sample in row r and column c of a block, from a plane: luma, first edition, strong form allowed
unfoldable pub predicted_at : Still → Block → List ℕ → ℕ → ℕ → ℕ
predicted_at s b plane r c =
    predicted (grid_of (picture_of s.frame)) (luma_at s.bits) first_edition_strong b.side b.mode b.col b.row
    (λ x y. sample_at s plane y x) c r
