-- The two forms of the standard's filtering, each row by itself. Assumes nothing.
use Rattle.std.specs.Prelude.{◌≡◌, refl, Bool, true, false, ◌&&◌, ℕ, ◌+◌, ◌*◌, ◌/◌, eqb, ℤ, pos, negsuc, ◌-ℤ◌}
use Rattle.std.proofs.Common.{eqb-true}
use Rattle.laws.specs.Choose.{both_true}
use Rattle.h265.specs.Notation.{Neighbours, near}
use Rattle.h265.specs.Filtering.{straight, bi_int_flag, strong_at, weak_at, filtered}

-- a row whose entry -1 is the corner
abbrev pub line : ℕ → (ℕ → ℕ) → ℤ → ℕ
line corner row (pos x) = row x
line corner row (negsuc x) = corner

-- entry x in the [1 2 1] form
abbrev pub weak_row : ℕ → ℕ → (ℕ → ℕ) → ℕ → ℕ
weak_row n corner row x = weak_at n (line corner row (pos x -ℤ pos 1)) (row x) (row (x + 1)) x

abbrev pub weak_form : ℕ → Neighbours → Neighbours
weak_form n nb =
    record {
      corner = (nb.left 0 + 2 * nb.corner + nb.above 0 + 2) / 4;
      above = weak_row n nb.corner nb.above;
      left = weak_row n nb.corner nb.left;
    }

abbrev pub strong_form : Neighbours → Neighbours
strong_form nb =
    record { corner = nb.corner; above = strong_at nb.corner (nb.above 63); left = strong_at nb.corner (nb.left 63) }

-- along the first row and along the first column
across : (nb : Neighbours) (z : ℤ) → near nb z (negsuc 0) ≡ line nb.corner nb.above z
across nb (pos x) = refl
across nb (negsuc x) = refl

down : (nb : Neighbours) (z : ℤ) → near nb (negsuc 0) z ≡ line nb.corner nb.left z
down nb (pos x) = refl
down nb (negsuc x) = refl

-- the standard's filtering is the one or the other
pub strong_is : (allowed : Bool) (bits n : ℕ) (nb : Neighbours) → bi_int_flag allowed bits n nb ≡ true → filtered allowed bits n nb
    ≡ strong_form nb
unfolding filtered
strong_is allowed bits n nb e = rw e

pub weak_is : (allowed : Bool) (bits n : ℕ) (nb : Neighbours) → bi_int_flag allowed bits n nb ≡ false → filtered allowed bits n nb
    ≡ weak_form n nb
unfolding filtered
weak_is allowed bits n nb e =
    rw e
    (λ i.
    record {
      corner = (nb.left 0 + 2 * nb.corner + nb.above 0 + 2) / 4;
      above = λ x. weak_at n (across nb (pos x -ℤ pos 1) i) (nb.above x) (nb.above (x + 1)) x;
      left = λ y. weak_at n (down nb (pos y -ℤ pos 1) i) (nb.left y) (nb.left (y + 1)) y;
    })

-- without the strong form there is only the one
pub never_strong : (bits n : ℕ) (nb : Neighbours) → bi_int_flag false bits n nb ≡ false
unfolding bi_int_flag
never_strong bits n nb = refl

-- the strong form is of side 32
pub strong_side : (allowed : Bool) (bits n : ℕ) (nb : Neighbours) → bi_int_flag allowed bits n nb ≡ true → n ≡ 32
unfolding bi_int_flag
strong_side allowed bits n nb e =
    let up = straight bits nb.corner (nb.above 31) (nb.above 63) in
    let side = straight bits nb.corner (nb.left 31) (nb.left 63) in
    let f = (both_true (allowed && eqb n 32 && up) side e).0 in
    eqb-true n 32 (both_true allowed (eqb n 32) (both_true (allowed && eqb n 32) up f).0).1
