-- Document 01: what the doors of the two gathers refuse, and what they give. Assumes nothing.
use Rattle.std.specs.Prelude.{ℕ, ◌*◌, Bool, ◌&&◌, List, [], ◌∷◌, leb, eqb, length, Option, Some, None}
use Rattle.laws.specs.Choose.{◌unless◌, first_fail, served}
use Rattle.domain.specs.Domain.{depth_ok, size_ok}
use Rattle.fmt.specs.declared.ChromaFormat.{ChromaFormat}
use Rattle.fmt.specs.declared.ChromaFormat.TheVariants.{Monochrome}
use Rattle.fmt.specs.Fmt.{format_from}
use Rattle.order.specs.declared.Picture.{Picture}
use Rattle.order.specs.declared.LumaBlock.{LumaBlock}
use Rattle.order.specs.declared.ChromaBlock.{ChromaBlock}
use Rattle.order.specs.Order.{picture_ok}
use Rattle.order.specs.Reach.{luma_place_ok, luma_has, chroma_place_ok, chroma_has, chroma_height, chroma_width}
use Rattle.domain.specs.declared.rows.Rows.{Rows}
use Rattle.refs.specs.Answers.{Gathered, GatheredPair}
use Rattle.refs.specs.declared.LumaRefGeometry.{LumaRefGeometry}
use Rattle.refs.specs.declared.ChromaRefGeometry.{ChromaRefGeometry}
use Rattle.domain.specs.rows.Neighbours.{level_rows}
use Rattle.refs.specs.substitution.Door.{neutral_at}
use Rattle.refs.specs.Gather.{gathered_by, sample_of}

-- a block and its picture, from numbers
abbrev pub luma_geometry : ℕ → ℕ → ℕ → ℕ → ℕ → ℕ → ℕ → ℕ → LumaRefGeometry
luma_geometry bits width height ctu unit row col n =
    record {
      bits = bits;
      picture = record { width = width; height = height; ctu = ctu; unit = unit };
      block_row = record { 0 = row };
      block_col = record { 0 = col };
      n = n;
    }

abbrev pub chroma_geometry : ℕ → ℕ → ℕ → ℕ → ℕ → ℕ → ℕ → ℕ → ℕ → ℕ → ℕ → ChromaRefGeometry
chroma_geometry bits format width height ctu unit row col n curRow curCol =
    record {
      bits = bits;
      format = format;
      luma_w = width;
      luma_h = height;
      ctu = ctu;
      min_luma_pu = unit;
      block_row = record { 0 = row };
      block_col = record { 0 = col };
      n = n;
      cur_luma_row = record { 0 = curRow };
      cur_luma_col = record { 0 = curCol };
    }

-- The luma gather refuses 1, 2, 4, 5, 6; a plane of another length than the picture's is not whole.
abbrev pub luma_block : LumaRefGeometry → LumaBlock
luma_block g = record { picture = g.picture; row = g.block_row; col = g.block_col; n = g.n }

abbrev pub luma_number : Bool → LumaRefGeometry → ℕ
luma_number whole g =
    first_fail
    ((1 unless depth_ok g.bits) ∷ (2 unless size_ok g.n) ∷ (4 unless picture_ok g.picture) ∷ (5 unless whole)
    ∷ (6 unless luma_place_ok (luma_block g))
    ∷ [])

-- a plane's count of luma samples
abbrev pub luma_length : LumaRefGeometry → ℕ
luma_length g = g.picture.height * g.picture.width

unfoldable pub luma_no : ℕ → LumaRefGeometry → ℕ
luma_no len g = luma_number (eqb len (luma_length g)) g

-- the rows of a luma block
unfoldable pub luma_rows : List ℕ → LumaRefGeometry → Rows
luma_rows plane g =
    gathered_by (luma_has (luma_block g)) (sample_of plane g.picture.width) g.block_row.0 g.block_col.0 g.n
    (neutral_at g.bits)

unfoldable pub get_reference_samples : List ℕ → LumaRefGeometry → Gathered
get_reference_samples plane g = let k = luma_no (length plane) g in record { no = k; rows = served k (luma_rows plane g) (level_rows 0) }

-- The chroma pair gather refuses 1, 2, 4, 5, 6. Order is counted in the picture's CTUs; formats go by chroma_format_idc, and an unknown
-- one is refused as monochrome is.
abbrev pub format_in : Option ChromaFormat → ChromaFormat
format_in (Some f) = f
format_in None = Monochrome

abbrev pub format_of : ℕ → ChromaFormat
format_of idc = format_in (format_from idc)

abbrev pub chroma_picture : ChromaRefGeometry → Picture
chroma_picture g = record { width = g.luma_w; height = g.luma_h; ctu = g.ctu; unit = g.min_luma_pu }

abbrev pub chroma_block : ChromaRefGeometry → ChromaBlock
chroma_block g =
    record {
      picture = chroma_picture g;
      format = format_of g.format;
      row = g.block_row;
      col = g.block_col;
      n = g.n;
      cur_luma_row = g.cur_luma_row;
      cur_luma_col = g.cur_luma_col;
    }

-- a plane of chroma samples
abbrev pub chroma_length : ChromaRefGeometry → ℕ
chroma_length g = chroma_height (chroma_block g) * chroma_width (chroma_block g)

abbrev pub chroma_number : Bool → ChromaRefGeometry → ℕ
chroma_number whole g =
    first_fail
    ((1 unless depth_ok g.bits) ∷ (2 unless size_ok g.n)
    ∷ (4 unless picture_ok (chroma_picture g) && leb 1 g.format && leb g.format 3)
    ∷ (5 unless whole) ∷ (6 unless chroma_place_ok (chroma_block g)) ∷ [])

unfoldable pub chroma_no : ℕ → ℕ → ChromaRefGeometry → ℕ
chroma_no cb cr g = chroma_number (eqb cb (chroma_length g) && eqb cr (chroma_length g)) g

-- the rows of a chroma block in one plane
unfoldable pub chroma_rows : List ℕ → ChromaRefGeometry → Rows
chroma_rows plane g =
    gathered_by (chroma_has (chroma_block g)) (sample_of plane (chroma_width (chroma_block g))) g.block_row.0 g.block_col.0 g.n
    (neutral_at g.bits)

-- Cb first, then Cr
abbrev pub chroma_pair : List ℕ → List ℕ → ChromaRefGeometry → List Rows
chroma_pair cb cr g = chroma_rows cb g ∷ chroma_rows cr g ∷ []

unfoldable pub get_reference_samples_chroma_pair : List ℕ → List ℕ → ChromaRefGeometry → GatheredPair
get_reference_samples_chroma_pair cb cr g =
    let k = chroma_no (length cb) (length cr) g in
    record { no = k; planes = served k (chroma_pair cb cr g) (level_rows 0 ∷ level_rows 0 ∷ []) }
