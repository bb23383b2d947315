-- What a block's neighbours are read from, by 6.4.1 and 8.4.4.2.2: the samples beside the block that are marked as available, and nothing
-- else, whatever they hold. Two pictures of a component that agree there have the same neighbours in the end, and predict the same block:
-- proofs/Locality says and proves it. Assumes nothing.
use Rattle.std.specs.Prelude.{ℕ, ◌+◌, ◌*◌, ◌≤◌, ◌<◌, ◌≡◌, ◌⊎◌}
use Rattle.h265.specs.Setting.{Grid, Component}
use Rattle.h265.specs.Order.{address_at}

-- A sample is in column x and row y of its component; the block's first one is (xTb, yTb).

-- the sample stands in the column left of the block or in the row above it
abbrev pub OnEdge : ℕ → ℕ → ℕ → ℕ → Type 0
OnEdge xTb yTb x y = (x + 1 ≡ xTb) ⊎ (y + 1 ≡ yTb)

-- it is p[−1][−1] or one of the first m entries of an edge: p[−1][0 .. m − 1], p[0 .. m − 1][−1]
abbrev pub Beside : ℕ → ℕ → ℕ → ℕ → ℕ → Type 0
Beside m xTb yTb x y =
    ((x + 1 ≡ xTb) × (yTb ≤ y + 1) × (y < yTb + m)) ⊎ ((y + 1 ≡ yTb) × (xTb ≤ x + 1) × (x < xTb + m))

-- it is available to the block, 6.4.1: by the luma samples that the two stand for, it is in the picture and its address is not greater
pub record Seen (g : Grid) (c : Component) (xTb yTb x y : ℕ) : Type 0 where
  pub column : x * c.sub_width < g.width
  pub row : y * c.sub_height < g.height
  pub earlier : address_at g (x * c.sub_width) (y * c.sub_height) ≤ address_at g (xTb * c.sub_width) (yTb * c.sub_height)
