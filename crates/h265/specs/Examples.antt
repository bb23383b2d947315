-- Small evaluations: the definitions compute, and give what was worked out by hand from the standard's text. Document 01's own figures,
-- P1 to P10, are in the table of room figures, and no figure here is one of them. Assumes nothing.
use Rattle.std.specs.Prelude.{◌≡◌, refl, Bool, true, false, cond, List, [], ◌∷◌, ℕ, ◌+◌, ◌*◌, eqb, ℤ, pos}
use Rattle.h265.specs.Notation.{−1, Neighbours, near, ◌⟦◌⟧⟦◌⟧, log2, halvings}
use Rattle.h265.specs.Setting.{Grid, Component, CodingFlags, luma_at, first_edition, first_edition_strong}
use Rattle.h265.specs.Order.{interleaved, z_scan, min_tb_addr_zs, address_at}
use Rattle.h265.specs.Availability.{available}
use Rattle.h265.specs.Substitution.{first_marked, settled, substituted_at, marked, neighbours}
use Rattle.h265.specs.Filtering.{filter_flag, straight, bi_int_flag, strong_at, weak_at, filtered}
use Rattle.h265.specs.Planar.{planar}
use Rattle.h265.specs.Dc.{sum_to, dc_val, dc}
use Rattle.h265.specs.Angular.{intra_pred_angle, inv_angle, ref, project, angular}
use Rattle.h265.specs.Prediction.{filters, prepared, pred_samples, predicted}

-- a list of values, and the list that was worked out
infix 1 ◌gives◌
abbrev ◌gives◌ : {A : Type 0} → List A → List A → Type 0
values gives expected = values ≡ expected

log2_of_sides : log2 4 ∷ log2 8 ∷ log2 16 ∷ log2 32 ∷ log2 64 ∷ [] gives 2 ∷ 3 ∷ 4 ∷ 5 ∷ 6 ∷ []
unfolding halvings
log2_of_sides = refl

-- 40 by 24 samples, CTU 16, cells of 4: three CTUs to a row and 16 cells to a CTU; the last CTUs of a row and of a column are cut
abbrev cut : Grid
cut = record { width = 40; height = 24; ctb = 4; min_tb = 2 }

-- 6.5.2. Column 28, row 8 is cell (3, 2) of CTU 1: 16 + (1 + 4) + 8. Row 16 begins with CTU 3. (36, 20) is cell (1, 1) of CTU 5.
order_of_cells : address_at cut 28 8 ∷ address_at cut 0 16 ∷ address_at cut 36 20 ∷ [] gives 29 ∷ 48 ∷ 83 ∷ []
unfolding min_tb_addr_zs z_scan interleaved
order_of_cells = refl

-- 6.4.1, to the block at (8, 4), of address 6: above it (4), to the right of that (5), left and below (9), in its own cell
seen :
    available cut 8 4 (pos 8) (pos 3) ∷ available cut 8 4 (pos 12) (pos 3) ∷ available cut 8 4 (pos 7) (pos 8)
    ∷ available cut 8 4 (pos 9) (pos 5) ∷ []
    gives true ∷ true ∷ false ∷ true ∷ []
unfolding available min_tb_addr_zs z_scan interleaved
seen = refl

-- left of the picture and above it; right of it and below it, where the address would be less than the block's
outside :
    available cut 0 4 −1 (pos 4) ∷ available cut 8 0 (pos 8) −1
    ∷ available cut 36 16 (pos 40) (pos 15) ∷ available cut 16 20 (pos 15) (pos 24) ∷ []
    gives false ∷ false ∷ false ∷ false ∷ []
unfolding available min_tb_addr_zs z_scan interleaved
outside = refl

-- 8.4.4.2.2: p[x][y] of a block of 4, where the sample in column x and row y is 10x + y
abbrev next_to : Component → ℕ → ℕ → ℤ → ℤ → ℕ
next_to c xTb yTb = near (neighbours cut c 4 xTb yTb (λ x y. 10 * x + y))

-- the picture's first block has no neighbour, at 10 bits; a sample of 0 is one
none_there :
    next_to (luma_at 10) 0 0 ⟦ pos 3 ⟧⟦ −1 ⟧ ∷ near (neighbours cut (luma_at 10) 4 4 4 (λ x y. 0)) ⟦ pos 3 ⟧⟦ −1 ⟧ ∷ []
    gives 512 ∷ 0 ∷ []
unfolding neighbours substituted_at first_marked settled marked available min_tb_addr_zs z_scan interleaved
none_there = refl

-- (4, 4), of address 3, has the cells 2, 0 and 1: what is below them takes the lowest sample, what is right of them the last
filled :
    let p = next_to (luma_at 8) 4 4 in
    p ⟦ −1 ⟧⟦ pos 7 ⟧ ∷ p ⟦ −1 ⟧⟦ pos 3 ⟧ ∷ p ⟦ −1 ⟧⟦ −1 ⟧ ∷ p ⟦ pos 3 ⟧⟦ −1 ⟧ ∷ p ⟦ pos 7 ⟧⟦ −1 ⟧ ∷ []
    gives 37 ∷ 37 ∷ 33 ∷ 73 ∷ 73 ∷ []
unfolding neighbours substituted_at first_marked settled marked available min_tb_addr_zs z_scan interleaved
filled = refl

-- chroma of 4:2:0, 4:2:2 and 4:4:4
abbrev chroma_at : ℕ → ℕ → Bool → ℕ → Component
chroma_at sub_width sub_height full bits = record { luma = false; bits = bits; sub_width = sub_width; sub_height = sub_height; full = full }

abbrev chroma420 : ℕ → Component
chroma420 = chroma_at 2 2 false

abbrev chroma422 : ℕ → Component
chroma422 = chroma_at 2 1 false

abbrev chroma444 : ℕ → Component
chroma444 = chroma_at 1 1 true

-- 4:2:0: (8, 8) is luma (16, 16), the first cell of CTU 4. Rows 12 to 15 of chroma are below the picture; above on the right is CTU 1.
-- 4:2:2: (4, 4), a lower square, is luma (8, 4), of address 6. It has the square above it; right of that is CTU 1, left and below cell 9.
subsampled :
    let p = next_to (chroma420 8) 8 8 in
    let q = next_to (chroma422 8) 4 4 in
    p ⟦ −1 ⟧⟦ pos 7 ⟧ ∷ p ⟦ −1 ⟧⟦ pos 0 ⟧ ∷ p ⟦ pos 7 ⟧⟦ −1 ⟧
    ∷ q ⟦ −1 ⟧⟦ pos 7 ⟧ ∷ q ⟦ pos 3 ⟧⟦ −1 ⟧ ∷ q ⟦ pos 7 ⟧⟦ −1 ⟧ ∷ []
    gives 81 ∷ 78 ∷ 157 ∷ 37 ∷ 73 ∷ 73 ∷ []
unfolding neighbours substituted_at first_marked settled marked available min_tb_addr_zs z_scan interleaved
subsampled = refl

-- 8.4.4.2.3: modes just past the limits of 8, 16 and 32 and at them; planar, DC, and a block of 4
filtering-rule :
    filter_flag 8 18 ∷ filter_flag 8 17 ∷ filter_flag 16 28 ∷ filter_flag 16 27 ∷ filter_flag 32 25 ∷ filter_flag 32 26
    ∷ filter_flag 8 0 ∷ filter_flag 32 1 ∷ filter_flag 4 34 ∷ []
    gives true ∷ false ∷ true ∷ false ∷ true ∷ false ∷ true ∷ false ∷ false ∷ []
unfolding filter_flag
filtering-rule = refl

-- corner 200, above 300 and at its end the number told, left 104 and at its end 8. At 10 bits the limit is 32; 200 + 431 - 600 is 31.
abbrev bent : ℕ → Neighbours
bent end = record { corner = 200; above = λ x. cond (eqb x 63) end 300; left = λ y. cond (eqb y 63) 8 104 }

-- corner, above[0], [31], [62], [63] and left[0], [62], [63]
abbrev entries : Neighbours → List ℕ
entries nb =
    nb.corner ∷ nb.above 0 ∷ nb.above 31 ∷ nb.above 62 ∷ nb.above 63 ∷ nb.left 0 ∷ nb.left 62 ∷ nb.left 63 ∷ []

-- the strong form; above[0] is (63 · 200 + 431 + 32) >> 6
strong-form : entries (filtered true 10 32 (bent 431)) gives 200 ∷ 204 ∷ 316 ∷ 427 ∷ 431 ∷ 197 ∷ 11 ∷ 8 ∷ []
unfolding filtered bi_int_flag straight strong_at
strong-form = refl

-- at the limit the form is [1 2 1]; above[62] is (300 + 2 · 300 + 432 + 2) >> 2
weak-form : entries (filtered true 10 32 (bent 432)) gives 201 ∷ 275 ∷ 300 ∷ 333 ∷ 432 ∷ 128 ∷ 80 ∷ 8 ∷ []
unfolding filtered bi_int_flag straight weak_at
weak-form = refl

-- above 100 + 3x, left 40 + 5y, and a corner
abbrev sloping : ℕ → Neighbours
sloping corner = record { corner = corner; above = λ x. 100 + 3 * x; left = λ y. 40 + 5 * y }

-- 8.4.4.2.4 at (0, 0), (2, 5) and (7, 7); the second is (5 · 65 + 3 · 124 + 2 · 106 + 6 · 80 + 8) >> 4
planar-block : planar 8 (sloping 70) 0 0 ∷ planar 8 (sloping 70) 2 5 ∷ planar 8 (sloping 70) 7 7 ∷ [] gives 74 ∷ 87 ∷ 102 ∷ []
unfolding planar halvings
planar-block = refl

-- 8.4.4.2.5: dc_val is (884 + 460 + 8) >> 4; the edge at (0, 0), (3, 0) and (0, 6), within it, and at 32, where there is none
dc-block :
    let nb = sloping 70 in
    dc false 8 nb 0 0 ∷ dc true 8 nb 0 0 ∷ dc true 8 nb 3 0 ∷ dc true 8 nb 0 6 ∷ dc true 8 nb 3 6 ∷ dc true 32 nb 0 0 ∷ []
    gives 84 ∷ 77 ∷ 90 ∷ 81 ∷ 84 ∷ 132 ∷ []
unfolding dc dc_val sum_to halvings
dc-block = refl

-- 8.4.4.2.6, horizontal. An angle below 0: mode 14, -13, inverse -630, so that ref[-1] to ref[-4] are above[1], [4], [6] and [9]; (7, 0) is
-- (8 · ref[-3] + 24 · ref[-2] + 16) >> 5; then (7, 5), (0, 0) and (4, 1). One above 0: mode 4, 21, at (2, 3) and (7, 7).
horizontal-block :
    let mode14 = angular 8 false 8 14 (sloping 70) in
    let mode4 = angular 8 false 8 4 (sloping 70) in
    mode14 7 0 ∷ mode14 7 5 ∷ mode14 0 0 ∷ mode14 4 1 ∷ mode4 2 3 ∷ mode4 7 7 ∷ [] gives 114 ∷ 49 ∷ 52 ∷ 71 ∷ 65 ∷ 101 ∷ []
unfolding angular project ref intra_pred_angle inv_angle
horizontal-block = refl

-- vertical, an angle below 0: mode 23, -9, at n = 4, where ref[-1] is left[3]: (0, 3) is (4 · ref[-1] + 28 · ref[0] + 16) >> 5; mode 25,
-- -2, at n = 8, where ref ends at the corner: (0, 0) is (2 · ref[0] + 30 · ref[1] + 16) >> 5
vertical_block : angular 8 false 4 23 (sloping 70) 0 3 ∷ angular 8 false 8 25 (sloping 70) 0 0 ∷ [] gives 68 ∷ 98 ∷ []
unfolding angular project ref intra_pred_angle inv_angle
vertical_block = refl

-- the edges of modes 10 and 26: 40 + (-3 >> 1), 40 - 77 clipped, past the edge, and 100 + (-43 >> 1)
edges :
    angular 8 true 8 10 (sloping 103) 0 0 ∷ angular 8 true 8 10 (sloping 253) 0 0 ∷ angular 8 true 8 10 (sloping 103) 0 3
    ∷ angular 8 true 8 26 (sloping 103) 0 4 ∷ []
    gives 38 ∷ 0 ∷ 55 ∷ 78 ∷ []
unfolding angular project ref intra_pred_angle inv_angle
edges = refl

-- above 10 but 90 in column 3, left 50, corner 30
abbrev spiked : Neighbours
spiked = record { corner = 30; above = λ x. cond (eqb x 3) 90 10; left = λ y. 50 }

-- 8.4.4.2.1: DC of a block of 8 takes the neighbours as they are, (90 + 3 · 35 + 2) >> 2; planar and mode 34 take them filtered:
-- above[2], [3] are 30 and 50, left[0] is 45. Mode 34 has above[2] at (0, 1) and above[3] at (1, 1).
whole-process :
    let at = pred_samples (luma_at 8) first_edition_strong 8 in
    at 1 spiked 3 0 ∷ at 0 spiked 3 0 ∷ at 34 spiked 0 1 ∷ at 34 spiked 1 1 ∷ [] gives 49 ∷ 39 ∷ 30 ∷ 50 ∷ []
unfolding pred_samples prepared filters filter_flag filtered bi_int_flag weak_at dc dc_val sum_to planar halvings
    angular project ref intra_pred_angle inv_angle
whole-process = refl

-- the block at (4, 4) of the picture in mode 34, whose last sample is above[7]: the substituted one
whole_block : predicted cut (luma_at 8) first_edition_strong 4 34 4 4 (λ x y. 10 * x + y) 3 3 ∷ [] gives 73 ∷ []
unfolding predicted pred_samples prepared filters filter_flag neighbours substituted_at first_marked settled marked available
    min_tb_addr_zs z_scan interleaved angular project ref intra_pred_angle inv_angle
whole_block = refl

-- strong_intra_smoothing_enabled_flag 0: [1 2 1] where the strong form would be
strong_off : entries (prepared (luma_at 10) (first_edition false) 32 34 (bent 431)) gives 201 ∷ 275 ∷ 300 ∷ 333 ∷ 431 ∷ 128 ∷ 80 ∷ 8 ∷ []
unfolding prepared filters filter_flag filtered bi_int_flag weak_at
strong_off = refl

-- The 2014 edition. intra_smoothing_disabled_flag 1: neither form, while the edges of DC and mode 26 stay
abbrev smoothing_disabled : CodingFlags
smoothing_disabled = record { strong = true; smoothing_off = true; edge_off = false }

smoothing-off :
    let at = pred_samples (luma_at 8) smoothing_disabled 8 in
    (prepared (luma_at 10) smoothing_disabled 32 34 (bent 431)).above 0 ∷ at 34 spiked 0 1 ∷ at 34 spiked 1 1
    ∷ at 1 (sloping 103) 0 0 ∷ at 26 (sloping 103) 0 4 ∷ []
    gives 300 ∷ 10 ∷ 90 ∷ 77 ∷ 78 ∷ []
unfolding pred_samples prepared filters dc dc_val sum_to halvings angular project ref intra_pred_angle inv_angle
smoothing-off = refl

-- disableIntraBoundaryFilter 1: no edge in modes 10 and 26, while DC keeps its own
edge-off :
    let at = pred_samples (luma_at 8) (record { strong = true; smoothing_off = false; edge_off = true }) 8 in
    at 10 (sloping 103) 0 0 ∷ at 26 (sloping 103) 0 4 ∷ at 1 (sloping 103) 0 0 ∷ [] gives 40 ∷ 100 ∷ 77 ∷ []
unfolding pred_samples prepared filters filter_flag dc dc_val sum_to halvings angular project ref intra_pred_angle inv_angle
edge-off = refl

-- chroma of 4:2:0 is not filtered, chroma of 4:4:4 is, and never in the strong form; neither has edges
chroma-filtered :
    let at = pred_samples (chroma444 8) first_edition_strong 8 in
    pred_samples (chroma420 8) first_edition_strong 8 34 spiked 1 1 ∷ at 34 spiked 1 1 ∷ at 26 (sloping 103) 0 4 ∷ at 1 (sloping 103) 0 0
    ∷ entries (prepared (chroma444 10) first_edition_strong 32 34 (bent 431))
    gives 90 ∷ 50 ∷ 100 ∷ 84 ∷ 201 ∷ 275 ∷ 300 ∷ 333 ∷ 431 ∷ 128 ∷ 80 ∷ 8 ∷ []
unfolding pred_samples prepared filters filter_flag filtered bi_int_flag weak_at dc dc_val sum_to halvings
    angular project ref intra_pred_angle inv_angle
chroma-filtered = refl
