-- Document 01, 'Plan, walk, replay': when a plan is good, by what its blocks cover. A plan is count blocks, plan 0 to plan (count - 1).
-- A cell of 4 by 4 samples is named by any of its samples. Assumes nothing.
use Rattle.std.specs.Prelude.{ℕ, zero, suc, ◌+◌, ◌*◌, ◌%◌, ◌≤◌, ◌<◌, ◌≡◌}
use Rattle.domain.specs.Facts.{Size}
use Rattle.order.specs.declared.Picture.{Picture}
use Rattle.order.specs.Order.{number_at}
use Rattle.plan.specs.declared.tiling.Frame.{Frame}
use Rattle.plan.specs.declared.tiling.Block.{Block}

-- a still as the order sees it: its least unit is 4
abbrev pub picture_of : Frame → Picture
picture_of f = record { width = f.width; height = f.height; ctu = f.ctu; unit = 4 }

-- a sample of the picture, and its cell's number in decode order
abbrev pub In : Frame → ℕ → ℕ → Type 0
In f r c = (r < f.height) × (c < f.width)

abbrev pub cell_at : Frame → ℕ → ℕ → ℕ
cell_at f r c = number_at (picture_of f) r c

-- a sample of a block
pub record Of (b : Block) (r c : ℕ) : Type 0 where
  pub top : b.row ≤ r
  pub bottom : r < b.row + b.side
  pub left : b.col ≤ c
  pub right : c < b.col + b.side

-- a sample of one of the first k blocks
abbrev pub Covered : (ℕ → Block) → ℕ → ℕ → ℕ → Type 0
Covered plan k r c = (i : ℕ) × (i < k) × Of (plan i) r c

-- a block whose size and place are not refused
pub record Placed (f : Frame) (b : Block) : Type 0 where
  pub size : Size b.side
  pub small : b.side ≤ f.ctu
  pub row_at : b.row % b.side ≡ 0
  pub col_at : b.col % b.side ≡ 0
  pub row_in : b.row + b.side ≤ f.height
  pub col_in : b.col + b.side ≤ f.width

-- block k starts at the next uncovered cell: no block before it covers its first sample, and they cover every sample of the
-- picture whose cell has a lower number
pub record Next (f : Frame) (plan : ℕ → Block) (k : ℕ) : Type 0 where
  pub free : Covered plan k (plan k).row (plan k).col → ⊥
  pub least : (r c : ℕ) → In f r c → cell_at f r c < cell_at f (plan k).row (plan k).col → Covered plan k r c

-- each block in turn starts at the next uncovered cell, and together they cover all
pub record GoodPlan (f : Frame) (plan : ℕ → Block) (count : ℕ) : Type 0 where
  pub placed : (k : ℕ) → k < count → Placed f (plan k)
  pub next : (k : ℕ) → k < count → Next f plan k
  pub all : (r c : ℕ) → In f r c → Covered plan count r c

-- where the residuals of block k begin: blocks consecutive in plan order
unfoldable pub place : (ℕ → Block) → ℕ → ℕ
place plan zero = 0
place plan (suc k) = place plan k + (plan k).side * (plan k).side
