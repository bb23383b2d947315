-- Document 01, 'Figures to prove together': P1 to P10 as one table, what the doors give on 01's inputs beside what 01 says, and one theorem
-- that they are the same. What a door gives is what its contract names; rows are lent whole, 65 entries, and block buffers hold 9 before.
-- Assumes nothing.
use Rattle.std.specs.Prelude.{ℕ, ◌+◌, ◌*◌, ◌≡◌, refl, Bool, true, false, not, List, [], ◌∷◌, ◌++◌, map, eqb, ℤ, pos, negsuc, length, get_or, replicate, set}
use Rattle.std.proofs.Common.{sym, ap, ◌∙◌}
use Rattle.laws.specs.Fill.{fill, rows, block}
use Rattle.laws.specs.Choose.{served, worked, unserved}
use Rattle.h265.specs.Notation.{from_rows, halvings}
use Rattle.h265.specs.Order.{min_tb_addr_zs, z_scan, interleaved}
use Rattle.h265.specs.Filtering as filtering
use Rattle.h265.specs.Filtering.{filter_flag, straight, bi_int_flag, weak_at, filtered}
use Rattle.h265.specs.Planar.{planar}
use Rattle.h265.specs.Dc.{sum_to, dc_val, dc}
use Rattle.h265.specs.Angular.{intra_pred_angle, inv_angle, ref, project, angular}
use Rattle.order.specs.declared.Picture.{Picture}
use Rattle.order.specs.Order.{number_at, order_no, decode_order}
use Rattle.smooth.specs.Answers.{Rule}
use Rattle.smooth.specs.Smoothing.{row_of, smoothed, should_filter_refs, filter_references, filter_luma_refs}
use Rattle.predict.specs.refusals.Refusals.{flat_no, angular_no}
use Rattle.residual.specs.Residual.{all_in_range, reconstruct_no, reconstructed}

-- a row of 65 entries of one value, one of 0, 1, 2, .., 64, and one that opens with an entry and goes on with 0
abbrev level : ℕ → List ℕ
level v = replicate 65 v

abbrev pub counting : List ℕ
counting = fill (λ (i : ℕ). i) 65 (level 0)

abbrev pub opening : ℕ → List ℕ
opening v = v ∷ replicate 64 0

-- what a predictor's contract says is left in a buffer of 16 entries, all 9 before, by a call at n = 4
abbrev blank : List ℕ
blank = replicate 16 9

abbrev pub planar_block : List ℕ → List ℕ → List ℕ
planar_block above left =
    served (flat_no 4 (length above) (length left) 16) (block (λ (y x : ℕ). planar 4 (from_rows 0 above left) x y) 4 blank) blank

abbrev pub dc_block : Bool → List ℕ → List ℕ → List ℕ
dc_block edge above left =
    served (flat_no 4 (length above) (length left) 16) (block (λ (y x : ℕ). dc edge 4 (from_rows 0 above left) x y) 4 blank) blank

abbrev pub angular_block : ℕ → Bool → ℕ → List ℕ → List ℕ → List ℕ
angular_block mode edge corner above left =
    served (angular_no 8 4 mode (record { above = length above; left = length left; pred = 16; refs = 193; indices = 32; fractions = 32 }))
    (block (λ (y x : ℕ). angular 8 edge 4 mode (from_rows corner above left) x y) 4 blank) blank

-- what is left by the number that a call gave is what is left by the number that its contract names
pub by_number : (work : List ℕ) {k n : ℕ} {left : List ℕ} → k ≡ n → left ≡ served k work blank → left ≡ served n work blank
by_number work e h = h ∙ ap (λ (k : ℕ). served k work blank) e

-- the sample in a row and a column of a block of 4
abbrev at : List ℕ → ℕ → ℕ → ℕ
at b row col = get_or b (row * 4 + col) 0

abbrev row_at : List ℕ → ℕ → List ℕ
row_at b row = at b row 0 ∷ at b row 1 ∷ at b row 2 ∷ at b row 3 ∷ []

-- the order of a place: 32 by 24 samples, CTU 16, unit 8, so two CTUs a row; 64 by 64, CTU 64, unit 4
abbrev sixteen : Picture
sixteen = record { width = 32; height = 24; ctu = 16; unit = 8 }

abbrev sixty_four : Picture
sixty_four = record { width = 64; height = 64; ctu = 64; unit = 4 }

abbrev pub order_at : Picture → ℕ → ℕ → ℕ
order_at p row col = (decode_order p (record { 0 = row }) (record { 0 = col })).value

-- 1 for yes, 0 for no
abbrev pub bit : Bool → ℕ
bit true = 1
bit false = 0

-- whether a mode is smoothed; 2 would be a refused call
abbrev pub smooths_at : ℕ → ℕ → ℕ
smooths_at n mode = served (should_filter_refs mode n).no (bit (should_filter_refs mode n).yes) 2

pub smooths_refused : {a : Rule} (n mode : ℕ) → a ≡ should_filter_refs mode n → ¬ (a.no ≡ 0) → 2 ≡ smooths_at n mode
smooths_refused n mode e h = unserved (should_filter_refs mode n).no _ 2 (λ z. h (ap (λ (r : Rule). r.no) e ∙ z))

pub smooths_told : {a : Rule} (n mode : ℕ) → a ≡ should_filter_refs mode n → a.no ≡ 0 → bit a.yes ≡ smooths_at n mode
smooths_told n mode e z =
    ap (λ (r : Rule). bit r.yes) e ∙ worked (should_filter_refs mode n).no _ 2 (sym (ap (λ (r : Rule). r.no) e) ∙ z)

-- P8's row: 100 up to entry 62, then the entry given; entry 31 of the smoothed row above, and whether it is another than the ordinary form
-- gives
abbrev pub bent : ℕ → List ℕ
bent end = set (level 100) 63 end

abbrev pub entry31 : ℕ → ℕ
entry31 end = get_or (filter_luma_refs true 100 (bent end) (bent end) 32 8).rows.above 31 0

abbrev pub ordinary31 : ℕ → ℕ
ordinary31 end = get_or (filter_references 100 (bent end) (bent end) 32).above 31 0

abbrev pub strong_of : ℕ → ℕ
strong_of end = bit (not (eqb (entry31 end) (ordinary31 end)))

-- P9's sample and residual, all through a block of 4
abbrev pub restored_to : ℕ → ℤ → ℕ
restored_to sample residual = get_or (reconstructed 8 4 (replicate 16 sample) (replicate 16 residual) blank) 0 0

-- P10's row, and its entries 0 and 1 smoothed at a side n
abbrev bump : List ℕ
bump = set (level 0) 1 4

abbrev pub smoothed_two : ℕ → List ℕ
smoothed_two n = let row = (filter_references 0 bump bump n).above in get_or row 0 0 ∷ get_or row 1 0 ∷ []

-- a figure: what the calls give, and what document 01 says
pub record Figure : Type 0 where
  pub given : List ℕ
  pub said : List ℕ

infix 1 ◌is◌
abbrev pub ◌is◌ : List ℕ → List ℕ → Figure
g is s = record { given = g; said = s }

-- n = 4, above all 10, left all 20: planar, then DC without and with its edge
abbrev p1 : Figure
p1 = let b = planar_block (level 10) (level 20) in (at b 0 0 ∷ at b 0 3 ∷ at b 3 0 ∷ [] is 15 ∷ 11 ∷ 19 ∷ [])

abbrev p2 : Figure
p2 =
    let b = dc_block false (level 10) (level 20) in
    let e = dc_block true (level 10) (level 20) in
    (at b 0 0 ∷ at e 0 0 ∷ at e 0 1 ∷ at e 1 0 ∷ [] is 15 ∷ 15 ∷ 14 ∷ 16 ∷ [])

-- mode 26 with its edge, above 200, corner 100: left 250, left 99
abbrev p3 : Figure
p3 = let b = angular_block 26 true 100 (level 200) in (at (b (level 250)) 0 0 ∷ at (b (level 99)) 0 0 ∷ [] is 255 ∷ 199 ∷ [])

-- mode 34, above[i] = i: the first row and the last
abbrev p4 : Figure
p4 = let b = angular_block 34 false 0 counting (level 0) in (row_at b 0 ++ row_at b 3 is 1 ∷ 2 ∷ 3 ∷ 4 ∷ 4 ∷ 5 ∷ 6 ∷ 7 ∷ [])

-- mode 18, of any corner, left[0] and above[0]
abbrev p5 : ℕ → ℕ → ℕ → Figure
p5 corner left0 above0 =
    let b = angular_block 18 false corner (opening above0) (opening left0) in
    (at b 0 0 ∷ at b 1 0 ∷ at b 0 1 ∷ [] is corner ∷ left0 ∷ above0 ∷ [])

-- decode order; which modes are smoothed at n = 8, 16, 32; the strong form
abbrev p6 : Figure
p6 =
    order_at sixteen 0 8 ∷ order_at sixteen 8 0 ∷ order_at sixteen 0 16 ∷ order_at sixteen 16 0 ∷ order_at sixty_four 4 8 ∷ []
    is 1 ∷ 2 ∷ 4 ∷ 8 ∷ 6 ∷ []

abbrev p7 : Figure
p7 =
    smooths_at 8 2 ∷ smooths_at 8 3 ∷ smooths_at 16 8 ∷ smooths_at 16 9 ∷ smooths_at 32 11 ∷ smooths_at 32 10 ∷ []
    is 1 ∷ 0 ∷ 1 ∷ 0 ∷ 1 ∷ 0 ∷ []

abbrev p8 : Figure
p8 = strong_of 107 ∷ entry31 107 ∷ strong_of 108 ∷ [] is 1 ∷ 104 ∷ 0 ∷ []

-- 250 + 10 and 5 - 9
abbrev p9 : Figure
p9 = restored_to 250 (pos 10) ∷ restored_to 5 (negsuc 8) ∷ [] is 255 ∷ 0 ∷ []

-- at every side
abbrev p10 : Figure
p10 = smoothed_two 4 ++ smoothed_two 8 ++ smoothed_two 16 ++ smoothed_two 32 is 1 ∷ 2 ∷ 1 ∷ 2 ∷ 1 ∷ 2 ∷ 1 ∷ 2 ∷ []

abbrev pub table : ℕ → ℕ → ℕ → List Figure
table corner left0 above0 = p1 ∷ p2 ∷ p3 ∷ p4 ∷ p5 corner left0 above0 ∷ p6 ∷ p7 ∷ p8 ∷ p9 ∷ p10 ∷ []

-- the calls give what document 01 says
pub figures : (corner left0 above0 : ℕ) → map (λ f. f.given) (table corner left0 above0) ≡ map (λ f. f.said) (table corner left0 above0)
unfolding fill rows flat_no planar dc dc_val sum_to angular project ref intra_pred_angle inv_angle halvings
    decode_order order_no number_at min_tb_addr_zs z_scan interleaved should_filter_refs filter_flag filter_references filter_luma_refs smoothed row_of
    filtered bi_int_flag straight filtering.strong_at weak_at reconstructed reconstruct_no all_in_range
figures corner left0 above0 = refl
