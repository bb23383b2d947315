-- Document 02, Wish 11, worked out: angular prediction at n = 4, 8 bits, edge off, corner 5, from rows of 8 entries, in modes 11 and 25;
-- and with 7 entries above. What the door gives is what its contract names; the block's buffer holds 9 before. Assumes nothing.
use Rattle.std.specs.Prelude.{ℕ, ◌≡◌, refl, false, List, [], ◌∷◌, length, replicate}
use Rattle.laws.specs.Fill.{fill, rows}
use Rattle.h265.specs.Notation.{halvings}
use Rattle.h265.specs.Angular.{intra_pred_angle, inv_angle, ref, project, angular}
use Rattle.predict.specs.Lent.{with_scratch}
use Rattle.predict.specs.refusals.Refusals.{angular_no}
use Rattle.figures.specs.figure_table.Figures.{angular_block}

abbrev seven : List ℕ
seven = 10 ∷ 20 ∷ 30 ∷ 40 ∷ 50 ∷ 60 ∷ 70 ∷ []

abbrev eight : List ℕ
eight = 10 ∷ 20 ∷ 30 ∷ 40 ∷ 50 ∷ 60 ∷ 70 ∷ 80 ∷ []

abbrev side : List ℕ
side = 15 ∷ 25 ∷ 35 ∷ 45 ∷ 55 ∷ 65 ∷ 75 ∷ 85 ∷ []

-- the number of the call, and its block
abbrev number_from : List ℕ → ℕ → ℕ
number_from above mode = angular_no 8 4 mode (with_scratch (length above) (length side) 16)

abbrev block_from : List ℕ → ℕ → List ℕ
block_from above mode = angular_block mode false 5 above side

pub shorter-rows :
    (block_from eight 11 ≡
    14 ∷ 14 ∷ 13 ∷ 13 ∷
    24 ∷ 24 ∷ 23 ∷ 23 ∷
    34 ∷ 34 ∷ 33 ∷ 33 ∷
    44 ∷ 44 ∷ 43 ∷ 43 ∷ [])
    × ((block_from eight 25 ≡
    10 ∷ 19 ∷ 29 ∷ 39 ∷
    9 ∷ 19 ∷ 29 ∷ 39 ∷
    9 ∷ 18 ∷ 28 ∷ 38 ∷
    9 ∷ 18 ∷ 28 ∷ 38 ∷ [])
    × ((number_from eight 11 ≡ 0) × ((number_from seven 11 ≡ 5) × (block_from seven 11 ≡ replicate 16 9))))
unfolding fill rows angular project ref intra_pred_angle inv_angle halvings
shorter-rows = (refl, (refl, (refl, (refl, refl))))
