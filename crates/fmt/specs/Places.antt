-- The kinds of places: luma and chroma, joined by subsampling. Assumes nothing.
use Rattle.std.specs.Prelude.{ℕ, ◌*◌, ◌/◌, min}
use Rattle.fmt.specs.declared.ChromaFormat.{ChromaFormat}
use Rattle.fmt.specs.declared.LumaRow.{LumaRow}
use Rattle.fmt.specs.declared.LumaCol.{LumaCol}
use Rattle.fmt.specs.declared.ChromaRow.{ChromaRow}
use Rattle.fmt.specs.declared.ChromaCol.{ChromaCol}
use Rattle.fmt.specs.Fmt.{sub_width, sub_height}

-- a luma number is held at the largest u32, which is outside every picture
abbrev pub saturated : ℕ → ℕ
saturated v = min v 4294967295

abbrev pub luma_row : ChromaFormat → ChromaRow → LumaRow
luma_row f r = record { 0 = saturated (sub_height f * r.0) }

abbrev pub luma_col : ChromaFormat → ChromaCol → LumaCol
luma_col f c = record { 0 = saturated (sub_width f * c.0) }

abbrev pub chroma_row : ChromaFormat → LumaRow → ChromaRow
chroma_row f r = record { 0 = r.0 / sub_height f }

abbrev pub chroma_col : ChromaFormat → LumaCol → ChromaCol
chroma_col f c = record { 0 = c.0 / sub_width f }
