-- Document 01, module 4: which neighbours of a block are there, by the luma rule and by the chroma rule, and how far along each edge
-- they reach. The doors' refusals are those of the gathers, as far as they go by places. Assumes nothing.
use Rattle.std.specs.Prelude.{ℕ, zero, suc, ◌+◌, ◌*◌, ◌/◌, ◌%◌, Bool, true, false, cond, ◌&&◌, ◌||◌, [], ◌∷◌, leb, ltb, eqb, ℤ, pos, negsuc, ◌-ℤ◌}
use Rattle.laws.specs.Choose.{◌unless◌, first_fail, served}
use Rattle.domain.specs.Domain.{size_ok, unit_ok}
use Rattle.fmt.specs.declared.ChromaFormat.{ChromaFormat}
use Rattle.fmt.specs.declared.ChromaFormat.TheVariants.{Monochrome, Yuv420, Yuv422, Yuv444}
use Rattle.fmt.specs.Fmt.{sub_width, sub_height}
use Rattle.order.specs.declared.Picture.{Picture}
use Rattle.order.specs.declared.LumaBlock.{LumaBlock}
use Rattle.order.specs.declared.ChromaBlock.{ChromaBlock}
use Rattle.order.specs.Answers.{Reached}
use Rattle.order.specs.Order.{picture_ok, place_ok, number_at, available_to}

-- A rule tells of a sample's row and column whether it is there. The neighbours of the block whose first sample is (row, col):
abbrev pub corner_has : (ℤ → ℤ → Bool) → ℕ → ℕ → Bool
corner_has has row col = has (pos row -ℤ pos 1) (pos col -ℤ pos 1)

abbrev pub above_has : (ℤ → ℤ → Bool) → ℕ → ℕ → ℕ → Bool
above_has has row col i = has (pos row -ℤ pos 1) (pos (col + i))

abbrev pub left_has : (ℤ → ℤ → Bool) → ℕ → ℕ → ℕ → Bool
left_has has row col i = has (pos (row + i)) (pos col -ℤ pos 1)

-- how many of f i, f (i + 1), .. hold before one fails, counted from i on, m at the most
unfoldable pub leading_from : (ℕ → Bool) → ℕ → ℕ → ℕ
leading_from f i zero = i
leading_from f i (suc m) = cond (f i) (leading_from f (suc i) m) i

abbrev pub leading : (ℕ → Bool) → ℕ → ℕ
leading f m = leading_from f 0 m

-- how far a block's neighbours reach along each edge, entries 0 to 2n
abbrev pub reach_by : ℕ → (ℤ → ℤ → Bool) → ℕ → ℕ → ℕ → Reached
reach_by k has row col n =
    record {
      no = k;
      corner = corner_has has row col;
      above = leading (above_has has row col) (2 * n + 1);
      left = leading (left_has has row col) (2 * n + 1);
    }

abbrev pub no_reach : ℕ → Reached
no_reach k = record { no = k; corner = false; above = 0; left = 0 }

-- number 6 of a block in its plane: at a multiple of n, wholly in the plane
abbrev pub in_plane : ℕ → ℕ → ℕ → ℕ → ℕ → Bool
in_plane height width row col n = eqb (row % n) 0 && eqb (col % n) 0 && leb (row + n) height && leb (col + n) width

-- Luma: the block is in the picture and no larger than a CTU, and the unit is 4 or 8 and no larger than the block.
abbrev pub luma_place_ok : LumaBlock → Bool
luma_place_ok b =
    let p = b.picture in
    in_plane p.height p.width b.row.0 b.col.0 b.n && leb b.n p.ctu && unit_ok p.unit && leb p.unit b.n

unfoldable pub luma_reach_no : LumaBlock → ℕ
luma_reach_no b = first_fail ((2 unless size_ok b.n) ∷ (4 unless picture_ok b.picture) ∷ (6 unless luma_place_ok b) ∷ [])

-- the luma rule: availability
abbrev pub luma_has : LumaBlock → ℤ → ℤ → Bool
luma_has b r c = available_to b.picture b.row b.col r c

unfoldable pub luma_reach : LumaBlock → Reached
luma_reach b = let no = luma_reach_no b in served no (reach_by 0 (luma_has b) b.row.0 b.col.0 b.n) (no_reach no)

-- Chroma: sides of the plane.
abbrev pub chroma_height : ChromaBlock → ℕ
chroma_height b = b.picture.height / sub_height b.format

abbrev pub chroma_width : ChromaBlock → ℕ
chroma_width b = b.picture.width / sub_width b.format

-- number 4 at the chroma door: monochrome too
abbrev pub has_chroma : ChromaFormat → Bool
has_chroma Monochrome = false
has_chroma Yuv420 = true
has_chroma Yuv422 = true
has_chroma Yuv444 = true

-- number 6: the block in its plane and no wider than a CTU there; the unit, and the current luma place in the luma picture
abbrev pub chroma_block_ok : Picture → ChromaFormat → ℕ → ℕ → ℕ → Bool
chroma_block_ok p f row col n = in_plane (p.height / sub_height f) (p.width / sub_width f) row col n && leb n (p.ctu / sub_width f)

abbrev pub chroma_place_ok : ChromaBlock → Bool
chroma_place_ok b =
    chroma_block_ok b.picture b.format b.row.0 b.col.0 b.n
    && place_ok b.picture b.cur_luma_row.0 b.cur_luma_col.0

unfoldable pub chroma_reach_no : ChromaBlock → ℕ
chroma_reach_no b = first_fail ((2 unless size_ok b.n) ∷ (4 unless picture_ok b.picture && has_chroma b.format)
    ∷ (6 unless chroma_place_ok b) ∷ [])

-- the chroma rule: in the chroma plane, and the neighbour's luma cell comes before the current luma place's, or is that cell and
-- the neighbour's row is above the block
unfoldable pub chroma_has : ChromaBlock → ℤ → ℤ → Bool
chroma_has b (pos r) (pos c) =
    let p = b.picture in
    let cur = number_at p b.cur_luma_row.0 b.cur_luma_col.0 in
    let nb = number_at p (r * sub_height b.format) (c * sub_width b.format) in
    ltb r (chroma_height b) && ltb c (chroma_width b) && (ltb nb cur || eqb nb cur && ltb r b.row.0)
chroma_has b (pos r) (negsuc c) = false
chroma_has b (negsuc r) c = false

unfoldable pub chroma_reach : ChromaBlock → Reached
chroma_reach b = let no = chroma_reach_no b in served no (reach_by 0 (chroma_has b) b.row.0 b.col.0 b.n) (no_reach no)
