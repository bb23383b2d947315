-- The colour component of H.265 that a format's planes are, and where the standard decides a chroma gather. Assumes nothing.
use Rattle.std.specs.Prelude.{◌≡◌, Bool, true, false, not, ℕ, ◌*◌, ◌≤◌}
use Rattle.h265.specs.Setting.{Component}
use Rattle.fmt.specs.declared.ChromaFormat.{ChromaFormat}
use Rattle.fmt.specs.declared.ChromaFormat.TheVariants.{Monochrome, Yuv420, Yuv422, Yuv444}
use Rattle.fmt.specs.Fmt.{sub_width, sub_height}
use Rattle.order.specs.Reach.{has_chroma}
use Rattle.refs.specs.declared.ChromaRefGeometry.{ChromaRefGeometry}
use Rattle.refs.specs.Door.{format_of}

-- ChromaArrayType = 3
abbrev pub is_full : ChromaFormat → Bool
is_full Monochrome = false
is_full Yuv420 = false
is_full Yuv422 = false
is_full Yuv444 = true

-- The component of a format's chroma planes. Monochrome has none: luma is its one component. So there are four, and no other can be made.
abbrev pub component_of : ChromaFormat → ℕ → Component
component_of f bits =
    record { luma = not (has_chroma f); bits = bits; sub_width = sub_width f; sub_height = sub_height f; full = is_full f }

-- The current luma place is the block's own, and the least unit is no wider than the block in luma samples.
pub record OwnPlace (g : ChromaRefGeometry) : Type 0 where
  pub row_own : g.cur_luma_row.0 ≡ g.block_row.0 * sub_height (format_of g.format)
  pub col_own : g.cur_luma_col.0 ≡ g.block_col.0 * sub_width (format_of g.format)
  pub unit_in : g.min_luma_pu ≤ g.n * sub_width (format_of g.format)
