-- Document 02, Wish 1: the luma mode with the least sum of absolute differences. Over H.265's own prediction (8.4.4.2.1), edge filter on,
-- smoothing where its rule says, the strong form allowed. Assumes nothing.
use Rattle.std.specs.Prelude.{◌≡◌, Bool, ◌&&◌, List, [], ◌∷◌, ℕ, ◌+◌, ◌-◌, ◌*◌, ◌^◌, leb, pos, nat_abs, ◌-ℤ◌, length, get_or, take}
use Rattle.laws.specs.Choose.{◌unless◌, first_fail}
use Rattle.laws.specs.Every.{every}
use Rattle.laws.specs.Sum.{total}
use Rattle.laws.specs.Least.{FirstLeast}
use Rattle.h265.specs.Notation.{Neighbours}
use Rattle.h265.specs.Setting.{luma_at, first_edition_strong}
use Rattle.h265.specs.Prediction.{pred_samples}
use Rattle.domain.specs.Domain.{depth_ok, size_ok, smoothing_row}
use Rattle.predict.specs.refusals.Refusals.{Lengths, lengths}
use Rattle.predict.specs.Lent.{Slice, MutSlice, len, mut_len, Untouched}
use Rattle.choose.specs.Answers.{Chosen}

-- how far apart two samples are
abbrev pub apart : ℕ → ℕ → ℕ
apart a b = nat_abs (pos a -ℤ pos b)

-- The sum of absolute differences of the first k rows of n samples. Both sides give the sample in column x and row y.
unfoldable pub differences : (ℕ → ℕ → ℕ) → (ℕ → ℕ → ℕ) → ℕ → ℕ → ℕ
differences source prediction n k = total (λ y. total (λ x. apart (source x y) (prediction x y)) n) k

-- the sample in column x and row y of a source block of side n, which stands in rows in the first n * n entries
abbrev pub source_at : ℕ → List ℕ → ℕ → ℕ → ℕ
source_at n source x y = get_or source (y * n + x) 0

-- the sum of a mode
abbrev pub mode_sum : ℕ → ℕ → Neighbours → List ℕ → ℕ → ℕ
mode_sum bits n nb source mode =
    differences (source_at n source) (pred_samples (luma_at bits) first_edition_strong n mode nb) n n

-- Refusals 1, 2, 5 for rows below 65 at every side, for a source or a scratch that is too short, and 7 for the block's samples: entries
-- past the first n * n are neither used nor checked. `source` has the samples, `l` the lengths of all else that is lent.
abbrev pub lends_enough : ℕ → ℕ → Lengths → Bool
lends_enough n source l =
    leb smoothing_row l.above && leb smoothing_row l.left && leb (n * n) source && leb (n * n) l.pred
    && leb 193 l.refs && leb 32 l.indices && leb 32 l.fractions

unfoldable pub choose_no : ℕ → ℕ → List ℕ → Lengths → ℕ
choose_no bits n source l =
    first_fail
    ((1 unless depth_ok bits) ∷ (2 unless size_ok n) ∷ (5 unless lends_enough n (length source) l)
    ∷ (7 unless every (λ v. leb v (2 ^ bits - 1)) (take (n * n) source)) ∷ [])

-- What a call with the number k gives, where the modes have these sums. Served: of the modes 0 to 34 no mode does better, and every lower
-- one does worse. Refused: mode 0, sum 0.
pub record Chooses (k : ℕ) (sums : ℕ → ℕ) (r : Chosen) : Type 0 where
  pub number : r.no ≡ k
  pub best : k ≡ 0 → FirstLeast sums 35 r.mode r.sum
  pub nothing : (k ≡ 0 → ⊥) → (r.mode ≡ 0) × (r.sum ≡ 0)

-- the lengths of what a call lends beside the source
abbrev pub lends : Slice → Slice → MutSlice → MutSlice → MutSlice → MutSlice → Lengths
lends above left pred refs indices fractions =
    lengths (len above) (len left) (mut_len pred) (mut_len refs) (mut_len indices) (mut_len fractions)

-- the scratch is as it was: the block's buffer and the three tables
abbrev pub ScratchKept : MutSlice → MutSlice → MutSlice → MutSlice → Type 0
ScratchKept pred refs indices fractions = (pred.exit.now ≡ pred.entry.now) × Untouched refs indices fractions
