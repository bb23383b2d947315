-- Where a block's neighbours stand in a plane of samples in rows: the indices that the code reads at. Assumes nothing.
use Rattle.std.specs.Prelude.{◌≡◌, Bool, true, List, ℕ, ◌+◌, ◌-◌, ◌*◌, ◌≤◌, ◌<◌, ℤ, get_or}
use Rattle.std.proofs.Common.{sym, ap, ap₂, ◌∙◌, arith}
use Rattle.std.proofs.Math.Path.{fun_ext}
use Rattle.order.specs.declared.Reach.{Reach}
use Rattle.order.specs.Reach.{luma_reach, chroma_reach, chroma_width}
use Rattle.domain.specs.declared.rows.Rows.{Rows}
use Rattle.refs.specs.declared.Spot.{Spot}
use Rattle.refs.specs.Answers.{Laid}
use Rattle.refs.specs.declared.LumaRefGeometry.{LumaRefGeometry}
use Rattle.refs.specs.declared.ChromaRefGeometry.{ChromaRefGeometry}
use Rattle.refs.specs.Gather.{gathered_by, sample_of}
use Rattle.refs.specs.Door.{luma_block, luma_length, chroma_block, chroma_length}
use Rattle.refs.specs.Counts.{corner_at, above_at, left_at, from_reach, Counted, from-reach}

-- the corner, and entry 0 of the row above and of the left column
abbrev pub spot_of : ℕ → ℕ → ℕ → Spot
spot_of width row col =
    record { corner = (row - 1) * width + (col - 1); above = (row - 1) * width + col; left = row * width + (col - 1); width = width }

-- of a luma block, and of a chroma block in either plane
abbrev pub luma_spot : LumaRefGeometry → Spot
luma_spot g = spot_of g.picture.width g.block_row.0 g.block_col.0

abbrev pub chroma_spot : ChromaRefGeometry → Spot
chroma_spot g = spot_of (chroma_width (chroma_block g)) g.block_row.0 g.block_col.0

-- what a gather goes by, luma and chroma
abbrev pub luma_layout : LumaRefGeometry → Laid
luma_layout g = record { reach = luma_reach (luma_block g); spot = luma_spot g; length = luma_length g }

abbrev pub chroma_layout : ChromaRefGeometry → Laid
chroma_layout g = record { reach = chroma_reach (chroma_block g); spot = chroma_spot g; length = chroma_length g }

-- entry i of an edge from at on, each entry step samples further
abbrev pub on_edge : List ℕ → ℕ → ℕ → ℕ → ℕ
on_edge plane at step i = get_or plane (at + i * step) 0

abbrev pub corner_on : List ℕ → Spot → ℕ
corner_on plane s = get_or plane s.corner 0

abbrev pub above_on_plane : List ℕ → Spot → ℕ → ℕ
above_on_plane plane s = on_edge plane s.above 1

abbrev pub left_on : List ℕ → Spot → ℕ → ℕ
left_on plane s = on_edge plane s.left s.width

-- the rows that the code makes
abbrev pub plane_rows : List ℕ → Spot → Reach → ℕ → ℕ → Rows
plane_rows plane s r n neutral = from_reach r (corner_on plane s) (above_on_plane plane s) (left_on plane s) n neutral

-- no edge has more than 2n + 1 entries
pub record Few (r : Reach) (n : ℕ) : Type 0 where
  pub side : n ≤ 32
  pub above_few : r.above ≤ 2 * n + 1
  pub left_few : r.left ≤ 2 * n + 1

-- every neighbour that is counted stands in a plane of len samples
pub record Reads (r : Reach) (s : Spot) (len n : ℕ) : Type 0 where
  pub few : Few r n
  pub above_in : (i : ℕ) → i < r.above → s.above + i * 1 < len
  pub left_in : (i : ℕ) → i < r.left → s.left + i * s.width < len
  pub corner_in : r.corner ≡ true → s.corner < len

-- the rows of a rule whose neighbours are counted
pub rows_are : (has : ℤ → ℤ → Bool) (plane : List ℕ) (width row col n neutral : ℕ) (r : Reach) → n ≤ 32 → Counted has row col n r
    → plane_rows plane (spot_of width row col) r n neutral ≡ gathered_by has (sample_of plane width) row col n neutral
rows_are has plane width row col n neutral r small known =
    sym (from-reach has (sample_of plane width) row col n r small known neutral
    ∙ ap₂ (λ (f g : ℕ → ℕ). from_reach r (corner_at (sample_of plane width) row col) f g n neutral) above left)
  where
    above : above_at (sample_of plane width) row col ≡ above_on_plane plane (spot_of width row col)
    above = fun_ext (λ i. ap (λ (k : ℕ). get_or plane k 0)
        (let q : (row - 1) * width + (col + i) ≡ (row - 1) * width + col + i * 1 = omega arith in q))

    left : left_at (sample_of plane width) row col ≡ left_on plane (spot_of width row col)
    left = fun_ext (λ i. ap (λ (k : ℕ). get_or plane k 0)
        (let q : (row + i) * width + (col - 1) ≡ row * width + (col - 1) + i * width = omega arith in q))
