-- What each entry hands over, from the definition of the door behind it. Assumes nothing.
use Rattle.std.specs.Prelude.{ℕ, Bool, true, false, List, [], ℤ, get_or, Option, Some, None, Result, Ok, Err}
use Rattle.domain.specs.declared.refusal.Refusal.{Refusal}
use Rattle.domain.specs.Refusal.{number}
use Rattle.fmt.specs.declared.depth.BitDepth.{BitDepth}
use Rattle.fmt.specs.declared.ChromaFormat.{ChromaFormat}
use Rattle.fmt.specs.depth.Depth.{bits_of, max_val, neutral, depth_from}
use Rattle.fmt.specs.Fmt.{format_from, sub_width, sub_height}
use Rattle.fmt.specs.Places.{luma_row, luma_col, chroma_row, chroma_col}
use Rattle.order.specs.declared.Picture.{Picture}
use Rattle.order.specs.Answers.{Numbered, Flagged}
use Rattle.order.specs.Order.{decode_order, is_available}
use Rattle.smooth.specs.Answers.{Rule, FilteredRows, Smoothed}
use Rattle.smooth.specs.Smoothing.{should_filter_refs, filter_references, filter_luma_refs}
use Rattle.domain.specs.declared.rows.Rows.{Rows}
use Rattle.refs.specs.declared.substitution.Flags.{Flags}
use Rattle.refs.specs.Answers.{Gathered, GatheredPair}
use Rattle.refs.specs.declared.LumaRefGeometry.{LumaRefGeometry}
use Rattle.refs.specs.declared.ChromaRefGeometry.{ChromaRefGeometry}
use Rattle.refs.specs.substitution.Door.{substitute_refs}
use Rattle.refs.specs.Door as gather
use Rattle.checksum.specs.declared.RowRange.{RowRange}
use Rattle.checksum.specs.Answers.{Summed}
use Rattle.checksum.specs.Checksum.{checksum_of}
use Rattle.choose.specs.declared.Best.{Best}
use Rattle.choose.specs.Answers.{Chosen}
use Rattle.choose.specs.Answers as choose
use Rattle.probes.specs.declared.predict_probes.Choice.{Choice}
use Rattle.probes.specs.declared.Answer.{Answer}
use Rattle.probes.specs.declared.PairReferences.{PairReferences}
use Rattle.probes.specs.declared.DepthFigures.{DepthFigures}
use Rattle.probes.specs.declared.FormatFigures.{FormatFigures}
use Rattle.probes.specs.declared.Place.{Place}
use Rattle.probes.specs.declared.TwoRows.{TwoRows}
use Rattle.probes.specs.declared.References.{References}

-- a depth's figures; a refusal is its number and zeros
abbrev pub figures_of : Result BitDepth Refusal → DepthFigures
figures_of (Ok d) = record { no = 0; bits = bits_of d; largest = max_val d; neutral = neutral d }
figures_of (Err why) = record { no = number why; bits = 0; largest = 0; neutral = 0 }

abbrev pub depth_figures : ℕ → DepthFigures
depth_figures bits = figures_of (depth_from bits)

-- a format's subsampling, 1 and 1 for a number that names none
abbrev pub subsampling_of : Option ChromaFormat → FormatFigures
subsampling_of (Some f) = record { known = 1; across = sub_width f; down = sub_height f }
subsampling_of None = record { known = 0; across = 1; down = 1 }

abbrev pub format_figures : ℕ → FormatFigures
format_figures idc = subsampling_of (format_from idc)

-- the luma place of a chroma place, and the chroma place of a luma place
abbrev pub luma_place : ℕ → ℕ → Option ChromaFormat → Place
luma_place row col (Some f) = record { known = 1; row = (luma_row f (record { 0 = row })).0; col = (luma_col f (record { 0 = col })).0 }
luma_place row col None = record { known = 0; row = 0; col = 0 }

abbrev pub on_luma : ℕ → ℕ → ℕ → Place
on_luma idc row col = luma_place row col (format_from idc)

abbrev pub chroma_place : ℕ → ℕ → Option ChromaFormat → Place
chroma_place row col (Some f) = record { known = 1; row = (chroma_row f (record { 0 = row })).0; col = (chroma_col f (record { 0 = col })).0 }
chroma_place row col None = record { known = 0; row = 0; col = 0 }

abbrev pub on_chroma : ℕ → ℕ → ℕ → Place
on_chroma idc row col = chroma_place row col (format_from idc)

-- the order and availability doors' answers, from a picture as bare numbers
abbrev pub picture_with : ℕ → ℕ → ℕ → ℕ → Picture
picture_with width height ctu unit = record { width = width; height = height; ctu = ctu; unit = unit }

abbrev pub value_of : Numbered → Answer
value_of a = record { no = a.no; value = a.value }

abbrev bit : Bool → ℕ
bit true = 1
bit false = 0

abbrev pub flag_of : Flagged → Answer
flag_of a = record { no = a.no; value = bit a.yes }

abbrev pub order_answer : ℕ → ℕ → ℕ → ℕ → ℕ → ℕ → Answer
order_answer row col width height ctu unit = value_of
    (decode_order (picture_with width height ctu unit) (record { 0 = row }) (record { 0 = col }))

abbrev pub available_answer : ℤ → ℤ → ℕ → ℕ → ℕ → ℕ → ℕ → ℕ → Answer
available_answer nr nc row col width height ctu unit =
    flag_of (is_available (picture_with width height ctu unit) (record { row = nr; col = nc }) (record { 0 = row }) (record { 0 = col }))

-- the smoothing doors' answers
abbrev pub rule_of : Rule → Answer
rule_of a = record { no = a.no; value = bit a.yes }

abbrev pub two_rows_of : FilteredRows → TwoRows
two_rows_of a = record { no = a.no; above = a.above; left = a.left }

abbrev pub references_of : Smoothed → References
references_of a = record { no = a.no; corner = a.rows.corner; above = a.rows.above; left = a.rows.left }

abbrev pub rule_answer : ℕ → ℕ → Answer
rule_answer mode n = rule_of (should_filter_refs mode n)

abbrev pub filter_answer : ℕ → List ℕ → List ℕ → ℕ → TwoRows
filter_answer corner above left n = two_rows_of (filter_references corner above left n)

abbrev pub luma_answer : ℕ → List ℕ → List ℕ → ℕ → ℕ → References
luma_answer corner above left n bits = references_of (filter_luma_refs true corner above left n bits)

-- the answers of substitution and of the two gathers
abbrev pub gathered_of : Gathered → References
gathered_of a = record { no = a.no; corner = a.rows.corner; above = a.rows.above; left = a.rows.left }

-- plane 0 is Cb, 1 Cr
abbrev pub plane_of : GatheredPair → ℕ → Rows
plane_of a k = get_or a.planes k (record { corner = 0; above = []; left = [] })

abbrev pub pair_references_of : GatheredPair → PairReferences
pair_references_of a =
    record {
      no = a.no;
      cb_corner = (plane_of a 0).corner;
      cb_above = (plane_of a 0).above;
      cb_left = (plane_of a 0).left;
      cr_corner = (plane_of a 1).corner;
      cr_above = (plane_of a 1).above;
      cr_left = (plane_of a 1).left;
    }

-- rows and flags as an entry is handed them
abbrev pub rows_with : ℕ → List ℕ → List ℕ → Rows
rows_with corner above left = record { corner = corner; above = above; left = left }

abbrev pub flags_with : Bool → List Bool → List Bool → Flags
flags_with corner above left = record { corner = corner; above = above; left = left }

abbrev pub substitute_answer : Rows → Flags → ℕ → ℕ → References
substitute_answer rows flags n bits = gathered_of (substitute_refs rows flags n bits)

abbrev pub gather_answer : List ℕ → LumaRefGeometry → References
gather_answer plane geo = gathered_of (gather.get_reference_samples plane geo)

abbrev pub pair_answer : List ℕ → List ℕ → ChromaRefGeometry → PairReferences
pair_answer cb cr geo = pair_references_of (gather.get_reference_samples_chroma_pair cb cr geo)

-- the checksum's answer
abbrev pub sum_of : Summed → Answer
sum_of a = record { no = a.no; value = a.sum }

abbrev pub checksum_answer : RowRange → List ℕ → ℕ → Answer
checksum_answer r plane sum = sum_of (checksum_of r plane sum)

-- a choice, as it is handed over
abbrev pub chosen_of : Choice → Chosen
chosen_of a = record { no = a.no; mode = a.mode; sum = a.sum }

abbrev pub choice_of : Result Best Refusal → Choice
choice_of r = let c = choose.chosen_of r in record { no = c.no; mode = c.mode; sum = c.sum }
