-- What the work on a block asks: a block that can be predicted, where its residuals lie, and a buffer that holds its prediction.
-- Assumes nothing.
use Rattle.std.specs.Prelude.{◌≡◌, true, List, ℕ, ◌+◌, ◌*◌, ◌≤◌, ◌<◌, get_or}
use Rattle.domain.specs.Facts.{Depth}
use Rattle.order.specs.Good.{Good}
use Rattle.plan.specs.declared.tiling.Block.{Block}
use Rattle.plan.specs.tiling.Tiling.{picture_of, Placed}
use Rattle.walk.specs.declared.checks.Still.{Still}
use Rattle.walk.specs.checks.Checks.{Tables, is_roomy}
use Rattle.walk.specs.block.Predicted.{predicted_at}

-- a block that can be predicted
pub record Ready (s : Still) (b : Block) (plane : ℕ) (t : Tables) : Type 0 where
  pub depth : Depth s.bits
  pub picture : Good (picture_of s.frame)
  pub placed : Placed s.frame b
  pub mode : b.mode ≤ 34
  pub plane_len : plane ≡ s.frame.height * s.frame.width
  pub tables : is_roomy t ≡ true

-- a block whose residuals lie among so many
pub record Lies (b : Block) (residuals at : ℕ) : Type 0 where
  pub resid_in : at + b.side * b.side ≤ residuals

-- a buffer that holds a block's prediction, in rows
abbrev pub Predicted : Still → Block → List ℕ → List ℕ → Type 0
Predicted s b plane pred = (r c : ℕ) → r < b.side → c < b.side → get_or pred (r * b.side + c) 0 ≡ predicted_at s b plane r c
