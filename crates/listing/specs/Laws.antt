-- A turn more of what is drawn and of what is looked for. Assumes nothing.
use Rattle.std.specs.Prelude.{◌≡◌, refl, Bool, true, ◌&&◌, List, ℕ, ◌+◌, ◌*◌, ◌%◌, min, eqb, get_or}
use Rattle.std.proofs.Common.{add-one, ne_eqb}
use Rattle.listing.specs.Hex.{word_at}
use Rattle.listing.specs.Drawn.{next_of, drawn_sample, number_after, same_from}

pub number_none : (seed : ℕ) → seed ≡ number_after seed 0
unfolding number_after
number_none seed = refl

pub number_more : (seed i : ℕ) → next_of (number_after seed i) ≡ number_after seed (i + 1)
unfolding number_after
number_more seed i = rw add-one refl

pub sample_ordinary : (x top : ℕ) → ¬ (top ≡ 1) → x % (min top 65535 + 1) ≡ drawn_sample x top
sample_ordinary x top h = rw (ne_eqb top 1 h) refl

pub same_none : (line : List ℕ) (first : ℕ) (written : List ℕ) (place : ℕ) → true ≡ same_from line first written place 0
unfolding same_from
same_none line first written place = refl

pub same_more : (line : List ℕ) (first : ℕ) (written : List ℕ) (place i : ℕ) {all : Bool} {w e : ℕ}
    → all ≡ same_from line first written place i → w ≡ word_at line (9 * (first + i)) → e ≡ get_or written (place + i) 0
    → (all && eqb w e) ≡ same_from line first written place (i + 1)
unfolding same_from
same_more line first written place i p q r = rw (add-one, p, q, r) refl
