-- Document 02, Wish 1, for C: what the choice of a luma mode from rows and a source block in bytes gives back and writes. Rests on the
-- choice's own definitions.
use Rattle.std.specs.Prelude.{◌≡◌, Bool, ◌&&◌, List, [], ◌∷◌, ℕ, ◌-◌, ◌*◌, ◌^◌, leb, length, take}
use Rattle.laws.specs.Choose.{◌unless◌, first_fail}
use Rattle.laws.specs.Every.{every}
use Rattle.laws.specs.Least.{FirstLeast}
use Rattle.octets.specs.Bytes.{samples_of, pair_into}
use Rattle.domain.specs.Domain.{depth_ok, size_ok, smoothing_row}
use Rattle.choose.specs.Choose.{mode_sum}
use Rattle.camera.specs.Written.{Written}
use Rattle.camera.specs.prediction.Entries.{neighbours_in}

-- the rows' bytes, the source block's and the answer's, which are two numbers of four
abbrev pub choice_room : ℕ → ℕ → ℕ → ℕ → ℕ → Bool
choice_room n above left source out =
    leb (2 * smoothing_row) above && leb (2 * smoothing_row) left && leb (2 * (n * n)) source && leb 8 out

-- whether the first n * n samples are samples of the depth
abbrev pub block_ok : ℕ → ℕ → List ℕ → Bool
block_ok bits n samples = every (λ v. leb v (2 ^ bits - 1)) (take (n * n) samples)

-- what is found by them
abbrev pub samples_no : ℕ → ℕ → List ℕ → ℕ
samples_no bits n samples = first_fail ((7 unless block_ok bits n samples) ∷ [])

-- what is found by the lengths alone
unfoldable pub choice_lent_no : ℕ → ℕ → ℕ → ℕ → ℕ → ℕ → ℕ
choice_lent_no bits n above left source out =
    first_fail ((1 unless depth_ok bits) ∷ (2 unless size_ok n) ∷ (5 unless choice_room n above left source out) ∷ [])

unfoldable pub choice_no : ℕ → ℕ → List ℕ → List ℕ → List ℕ → List ℕ → ℕ
choice_no bits n above left source d =
    first_fail
    ((1 unless depth_ok bits) ∷ (2 unless size_ok n) ∷ (5 unless choice_room n (length above) (length left) (length source) (length d))
    ∷ (7 unless block_ok bits n (samples_of source)) ∷ [])

-- the sum of each mode
abbrev pub choice_sums : ℕ → ℕ → ℕ → List ℕ → List ℕ → List ℕ → ℕ → ℕ
choice_sums bits n corner above left source = mode_sum bits n (neighbours_in corner above left) (samples_of source)

-- a buffer that was d, after a mode and its sum were written into it, of which no mode does better and every lower one does worse
pub record BestInto (sums : ℕ → ℕ) (d out : List ℕ) : Type 0 where
  pub mode : ℕ
  pub sum : ℕ
  pub best : FirstLeast sums 35 mode sum
  pub stored : out ≡ pair_into mode sum d

-- what a call with the number k gives back and writes; a refused one leaves the buffer as it was
pub record ChoosesInto (k : ℕ) (sums : ℕ → ℕ) (d : List ℕ) (w : Written) : Type 0 where
  pub number : w.number ≡ k
  pub best : k ≡ 0 → BestInto sums d w.bytes
  pub kept : (k ≡ 0 → ⊥) → w.bytes ≡ d
