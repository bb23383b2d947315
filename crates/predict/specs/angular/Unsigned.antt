-- 8.4.4.2.6 with no number below 0: an angle stands as the angle plus 32, ref[i] at 64 + i. Bridge.antt shows that it is the
-- standard's. Assumes nothing.
use Rattle.std.specs.Prelude.{ℕ, ◌+◌, ◌-◌, ◌*◌, ◌/◌, ◌^◌, Bool, cond, ◌&&◌, List, [], ◌∷◌, leb, ltb, eqb, get_or}
use Rattle.h265.specs.Notation.{Neighbours}
use Rattle.samples.specs.taps.Taps.{interp_of, edge_of}
use Rattle.predict.specs.angles.Starts.{fraction_of}

-- intra_pred_angle plus 32, by mode
abbrev pub angles : List ℕ
angles =
    32 ∷ 32 ∷ 64 ∷ 58 ∷ 53 ∷ 49 ∷ 45 ∷ 41 ∷ 37 ∷ 34 ∷ 32 ∷ 30 ∷ 27 ∷ 23 ∷ 19 ∷ 15 ∷ 11 ∷ 6 ∷ 0 ∷ 6 ∷ 11 ∷ 15 ∷ 19 ∷ 23 ∷ 27 ∷ 30 ∷ 32 ∷ 34
    ∷ 37 ∷ 41 ∷ 45 ∷ 49 ∷ 53 ∷ 58 ∷ 64 ∷ []

-- -invAngle, by mode
abbrev pub inverses : List ℕ
inverses =
    0 ∷ 0 ∷ 0 ∷ 0 ∷ 0 ∷ 0 ∷ 0 ∷ 0 ∷ 0 ∷ 0 ∷ 0 ∷ 4096 ∷ 1638 ∷ 910 ∷ 630 ∷ 482 ∷ 390 ∷ 315 ∷ 256 ∷ 315 ∷ 390 ∷ 482 ∷ 630 ∷ 910 ∷ 1638
    ∷ 4096 ∷ 0 ∷ 0 ∷ 0 ∷ 0 ∷ 0 ∷ 0 ∷ 0 ∷ 0 ∷ 0 ∷ []

-- where row r of an angle starts among the references
abbrev pub ref_start : ℕ → ℕ → ℕ
ref_start e r = 64 + (r + 1) * e / 32 - r

-- which entry of the side row reference j is projected from, counted from 1; 0 is the corner
abbrev pub side_of : ℕ → ℕ → ℕ
side_of inv j = ((64 - j) * inv + 128) / 256

-- reference j of a vertical mode: the row above after 64, the corner and the row to the left up to it
unfoldable pub ref_at : Neighbours → ℕ → ℕ → ℕ
ref_at nb inv j =
    cond (ltb 64 j) (nb.above (j - 65)) (cond (eqb (side_of inv j) 0) nb.corner (nb.left (side_of inv j - 1)))

-- the sample in row r and column c of a vertical mode
unfoldable pub vertical_at : Neighbours → ℕ → ℕ → ℕ → ℕ → ℕ
vertical_at nb e inv r c =
    interp_of (fraction_of e r) (ref_at nb inv (ref_start e r + c)) (ref_at nb inv (ref_start e r + c + 1))

-- above and left exchanged: a horizontal mode is a vertical one, mirrored
abbrev pub mirror : Neighbours → Neighbours
mirror nb = record { corner = nb.corner; above = nb.left; left = nb.above }

-- the sample in column x and row y of any mode
unfoldable pub angular_at : ℕ → Bool → ℕ → ℕ → Neighbours → ℕ → ℕ → ℕ
angular_at bits edge n mode nb x y =
    cond (leb 18 mode)
    (cond (eqb mode 26 && (eqb x 0 && (edge && ltb n 32))) (edge_of (2 ^ bits - 1) (nb.above 0) (nb.left y) nb.corner)
    (vertical_at nb (get_or angles mode 0) (get_or inverses mode 0) y x))
    (cond (eqb mode 10 && (eqb y 0 && (edge && ltb n 32))) (edge_of (2 ^ bits - 1) (nb.left 0) (nb.above x) nb.corner)
    (vertical_at (mirror nb) (get_or angles mode 0) (get_or inverses mode 0) x y))
