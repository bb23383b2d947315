-- Document 02's figures of the chooser on blocks of 4 by 4, at the sums that the door's contract names. Assumes nothing.
use Rattle.std.specs.Prelude.{◌≡◌, refl, cond, List, [], ◌∷◌, ℕ, ◌+◌, ◌*◌, ◌<◌, leb, ltb, T, replicate}
use Rattle.std.proofs.Common.{arith, leb→le, ltb→lt}
use Rattle.std.proofs.lemmas.List.{length-replicate}
use Rattle.laws.specs.Sum.{total}
use Rattle.laws.specs.Table.{every_at, at}
use Rattle.laws.specs.Least.{FirstLeast}
use Rattle.h265.specs.Notation.{Neighbours, halvings}
use Rattle.h265.specs.Filtering.{filter_flag}
use Rattle.h265.specs.Planar.{planar}
use Rattle.h265.specs.Dc.{sum_to, dc_val, dc}
use Rattle.h265.specs.Angular.{intra_pred_angle, inv_angle, ref, project, angular}
use Rattle.h265.specs.Prediction.{filters, prepared, pred_samples}
use Rattle.choose.specs.Choose.{differences, mode_sum}

-- one test of all candidates
abbrev NoneBetter : (ℕ → ℕ) → ℕ → Type 0
NoneBetter f s = T (every_at (λ k x. leb s (f k)) 0 (replicate 35 0))

abbrev LowerWorse : (ℕ → ℕ) → ℕ → ℕ → Type 0
LowerWorse f m s = T (every_at (λ k x. ltb s (f k)) 0 (replicate m 0))

tested : (f : ℕ → ℕ) (m s : ℕ) → m < 35 → s ≡ f m → NoneBetter f s → LowerWorse f m s → FirstLeast f 35 m s
tested f m s h e t u =
    record {
      inside = h;
      is = e;
      least = λ j l. leb→le s (f j) (at (λ k x. leb s (f k)) (replicate 35 0) t j l);
      first = λ j l. ltb→lt s (f j) (at (λ k x. ltb s (f k)) (replicate m 0) u j (rw length-replicate l));
    }

-- corner and rows 7, source 9: every mode is 2 off at each sample, and the lowest is taken
abbrev levelled : ℕ → Neighbours
levelled v = record { corner = v; above = λ i. v; left = λ i. v }

pub all_tie : FirstLeast (mode_sum 8 4 (levelled 7) (replicate 16 9)) 35 0 32
unfolding differences total pred_samples prepared filters filter_flag planar halvings dc dc_val sum_to angular project ref intra_pred_angle inv_angle
all_tie = tested _ 0 32 (omega arith) refl tt tt

-- a row above that counts up, and a source along the diagonal
abbrev rising : Neighbours
rising = record { corner = 0; above = λ i. i; left = λ i. 0 }

abbrev diagonal : List ℕ
diagonal = 1 ∷ 2 ∷ 3 ∷ 4 ∷ 2 ∷ 3 ∷ 4 ∷ 5 ∷ 3 ∷ 4 ∷ 5 ∷ 6 ∷ 4 ∷ 5 ∷ 6 ∷ 7 ∷ []

pub hit_exactly : FirstLeast (mode_sum 8 4 rising diagonal) 35 34 0
unfolding differences total pred_samples prepared filters filter_flag planar halvings dc dc_val sum_to angular project ref intra_pred_angle inv_angle
hit_exactly = tested _ 34 0 (omega arith) refl tt tt

-- two rows alike: modes 2 and 34 both hit it, and 2 is taken
abbrev alike : Neighbours
alike = record { corner = 5; above = λ i. 10 * (i + 1); left = λ i. 10 * (i + 1) }

abbrev slope : List ℕ
slope = 20 ∷ 30 ∷ 40 ∷ 50 ∷ 30 ∷ 40 ∷ 50 ∷ 60 ∷ 40 ∷ 50 ∷ 60 ∷ 70 ∷ 50 ∷ 60 ∷ 70 ∷ 80 ∷ []

pub lower_of_two : FirstLeast (mode_sum 8 4 alike slope) 35 2 0
unfolding differences total pred_samples prepared filters filter_flag planar halvings dc dc_val sum_to angular project ref intra_pred_angle inv_angle
lower_of_two = tested _ 2 0 (omega arith) refl tt tt

-- rows past the depth: the edge of modes 10 and 26 is clipped to it, and no other sample is
pub past_the_depth : FirstLeast (mode_sum 8 4 (levelled 65535) (replicate 16 0)) 35 10 787440
unfolding differences total pred_samples prepared filters filter_flag planar halvings dc dc_val sum_to angular project ref intra_pred_angle inv_angle
past_the_depth = tested _ 10 787440 (omega arith) refl tt tt

-- Wish 8: mode 13 wins by exactly one, where modes 10 and 11 have 5
abbrev stepped : Neighbours
stepped = record { corner = 5; above = λ i. cond (ltb i 4) 5 9; left = λ i. cond (ltb i 4) 4 7 }

abbrev flecked : List ℕ
flecked = 5 ∷ 5 ∷ 5 ∷ 4 ∷ 4 ∷ 4 ∷ 4 ∷ 4 ∷ 5 ∷ 4 ∷ 5 ∷ 4 ∷ 4 ∷ 4 ∷ 4 ∷ 4 ∷ []

pub wins_by_one : FirstLeast (mode_sum 8 4 stepped flecked) 35 13 4
    × ((mode_sum 8 4 stepped flecked 10 ≡ 5) × (mode_sum 8 4 stepped flecked 11 ≡ 5))
unfolding differences total pred_samples prepared filters filter_flag planar halvings dc dc_val sum_to angular project ref intra_pred_angle inv_angle
wins_by_one = (tested _ 13 4 (omega arith) refl tt tt, (refl, refl))
