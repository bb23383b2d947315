-- Document 01, 'use from C': what planar, DC, angular prediction, a chroma and a luma block on bytes give back and write, and their
-- numbers. Numbers count bytes. Rests on the standard's clauses.
use Rattle.std.specs.Prelude.{ℕ, ◌*◌, ◌/◌, ◌%◌, Bool, not, ◌&&◌, List, [], ◌∷◌, leb, eqb, length}
use Rattle.laws.specs.Choose.{◌unless◌, first_fail}
use Rattle.laws.specs.Fill.{fill}
use Rattle.laws.specs.Bytes.{byte_of}
use Rattle.octets.specs.Bytes.{samples_of}
use Rattle.domain.specs.Domain.{depth_ok, size_ok, mode_ok, predictor_row, smoothing_row}
use Rattle.h265.specs.Notation.{Neighbours, from_rows}
use Rattle.h265.specs.Planar.{planar}
use Rattle.h265.specs.Dc.{dc}
use Rattle.h265.specs.Angular.{angular}
use Rattle.h265.specs.Setting.{luma_at, first_edition_strong}
use Rattle.h265.specs.Prediction.{pred_samples}
use Rattle.predict.specs.Contents.{chroma_at}
use Rattle.camera.specs.Written.{Written, entry}

-- the neighbours in a corner and two rows of bytes
abbrev pub neighbours_in : ℕ → List ℕ → List ℕ → Neighbours
neighbours_in corner above left = from_rows corner (samples_of above) (samples_of left)

-- a buffer after a block was written into it; g is the sample in a row and a column
unfoldable pub block_in_bytes : (ℕ → ℕ → ℕ) → ℕ → List ℕ → List ℕ
block_in_bytes g n d = fill (byte_of 2 (λ i. g (i / n) (i % n))) (2 * (n * n)) d

-- the rows' bytes, `row` at least in each, and the block's
abbrev pub has_block_room : ℕ → ℕ → ℕ → ℕ → ℕ → Bool
has_block_room row n above left out = leb row above && leb row left && leb (2 * (n * n)) out

-- planar and DC refuse 2 and 5
unfoldable pub flat_entry_no : ℕ → ℕ → ℕ → ℕ → ℕ
flat_entry_no n above left out = first_fail ((2 unless size_ok n) ∷ (5 unless has_block_room (2 * predictor_row n) n above left out) ∷ [])

abbrev flat_entry : (ℕ → ℕ → ℕ) → ℕ → List ℕ → List ℕ → List ℕ → Written
flat_entry g n above left d = entry (flat_entry_no n (length above) (length left) (length d)) (block_in_bytes g n d) d

abbrev pub planar_in : ℕ → List ℕ → List ℕ → ℕ → ℕ → ℕ
planar_in n above left y x = planar n (neighbours_in 0 above left) x y

unfoldable pub planar_entry : ℕ → List ℕ → List ℕ → List ℕ → Written
planar_entry n above left d = flat_entry (planar_in n above left) n above left d

abbrev pub dc_in : Bool → ℕ → List ℕ → List ℕ → ℕ → ℕ → ℕ
dc_in edge n above left y x = dc edge n (neighbours_in 0 above left) x y

-- an edge flag is on where it is not 0
unfoldable pub dc_entry : ℕ → ℕ → List ℕ → List ℕ → List ℕ → Written
dc_entry n edge above left d = flat_entry (dc_in (not (eqb edge 0)) n above left) n above left d

-- angular and the blocks of any mode refuse 1, 2, 3 and 5; a row's least bytes and whether the entry takes the mode are told
unfoldable pub mode_entry_no : ℕ → ℕ → ℕ → Bool → ℕ → ℕ → ℕ → ℕ
mode_entry_no row bits n taken above left out =
    first_fail ((1 unless depth_ok bits) ∷ (2 unless size_ok n) ∷ (3 unless taken) ∷ (5 unless has_block_room row n above left out) ∷ [])

abbrev mode_entry : (ℕ → ℕ → ℕ) → ℕ → ℕ → ℕ → Bool → List ℕ → List ℕ → List ℕ → Written
mode_entry g row bits n taken above left d = entry (mode_entry_no row bits n taken (length above) (length left) (length d)) (block_in_bytes g n d) d

abbrev pub angular_mode : ℕ → Bool
angular_mode mode = leb 2 mode && mode_ok mode

abbrev pub angular_in : ℕ → Bool → ℕ → ℕ → ℕ → List ℕ → List ℕ → ℕ → ℕ → ℕ
angular_in bits edge n mode corner above left y x = angular bits edge n mode (neighbours_in corner above left) x y

unfoldable pub angular_entry : ℕ → ℕ → ℕ → ℕ → ℕ → List ℕ → List ℕ → List ℕ → Written
angular_entry bits n mode edge corner above left d =
    mode_entry (angular_in bits (not (eqb edge 0)) n mode corner above left) (2 * predictor_row n) bits n (angular_mode mode) above left d

abbrev pub chroma_in : ℕ → ℕ → ℕ → ℕ → List ℕ → List ℕ → ℕ → ℕ → ℕ
chroma_in bits n mode corner above left y x = pred_samples (chroma_at bits) first_edition_strong n mode (neighbours_in corner above left) x y

unfoldable pub chroma_block_entry : ℕ → ℕ → ℕ → ℕ → List ℕ → List ℕ → List ℕ → Written
chroma_block_entry bits n mode corner above left d =
    mode_entry (chroma_in bits n mode corner above left) (2 * predictor_row n) bits n (mode_ok mode) above left d

-- a luma block is smoothed by the rule, so that its rows have as many samples as the smoothing functions ask
abbrev pub luma_in : ℕ → ℕ → ℕ → ℕ → List ℕ → List ℕ → ℕ → ℕ → ℕ
luma_in bits n mode corner above left y x = pred_samples (luma_at bits) first_edition_strong n mode (neighbours_in corner above left) x y

unfoldable pub luma_block_entry : ℕ → ℕ → ℕ → ℕ → List ℕ → List ℕ → List ℕ → Written
luma_block_entry bits n mode corner above left d =
    mode_entry (luma_in bits n mode corner above left) (2 * smoothing_row) bits n (mode_ok mode) above left d
