-- Document 02, Wish 1: the table of numbers at the chooser and at its entry for C, where number 5 counts bytes. Rests on Exact and on the
-- doors' tables.  choose::choose_mode   choose_mode   salvrunde_choose   choose
use Rattle.std.specs.Prelude.{refl, List, [], ◌∷◌, ℕ, ◌-◌, ◌*◌, ◌^◌, ◌<◌, length, take}
use Rattle.domain.specs.Facts.{Depth, Size}
use Rattle.predict.specs.refusals.Refusals.{Lengths}
use Rattle.choose.specs.Choose.{lends_enough, choose_no}
use Rattle.octets.specs.Bytes.{samples_of}
use Rattle.camera.specs.choice.Entry.{choice_no}
use Rattle.promises.specs.tables.Exact.{Row, ◌when◌, ◌or◌, Exact, Tells, exact_none, exact_row, all_of, at-most}
use Rattle.promises.specs.tables.Table.{depth, size, scratch}
use Rattle.promises.specs.run_tables.TableWalk.{Some, every_one}

-- number 5: a row below 65 entries, a source or a block's buffer below the block, a short table
abbrev pub ShortChoice : ℕ → ℕ → Lengths → Type 0
ShortChoice n source l =
    l.above < 65 or l.left < 65 or source < n * n or l.pred < n * n or l.refs < 193 or l.indices < 32 or l.fractions < 32

-- number 7: one of the block's samples, the first n * n, is above the depth's largest
abbrev pub choose_table : ℕ → ℕ → List ℕ → Lengths → List (Row ℕ)
choose_table bits n source l =
    (1 when ¬ Depth bits) ∷ (2 when ¬ Size n) ∷ (5 when ShortChoice n (length source) l)
    ∷ (7 when Some 0 (λ v. 2 ^ bits - 1 < v) (take (n * n) source)) ∷ []

short : (n source : ℕ) (l : Lengths) → Tells (lends_enough n source l) (ShortChoice n source l)
short n source l =
    scratch (all_of (all_of (all_of (at-most 65 l.above) (at-most 65 l.left)) (at-most (n * n) source)) (at-most (n * n) l.pred))
    l.refs l.indices l.fractions

pub choose_mode : (bits n : ℕ) (source : List ℕ) (l : Lengths) → Exact (choose_no bits n source l) (choose_table bits n source l)
unfolding choose_no
choose_mode bits n source l =
    exact_row (depth bits) refl
    (λ e. exact_row (size n) refl
    (λ e. exact_row (short n (length source) l) refl
    (λ e. exact_row (every_one 0 (λ v. at-most v (2 ^ bits - 1)) (take (n * n) source)) refl (λ e. exact_none))))

-- the entry: a row below 130 bytes, a source below the block, a buffer below 8
abbrev pub ShortChoiceBytes : ℕ → List ℕ → List ℕ → List ℕ → List ℕ → Type 0
ShortChoiceBytes n above left source out =
    length above < 130 or length left < 130 or length source < 2 * (n * n) or length out < 8

pub choose : (bits n : ℕ) (above left source out : List ℕ) → Exact (choice_no bits n above left source out)
    ((1 when ¬ Depth bits) ∷ (2 when ¬ Size n) ∷ (5 when ShortChoiceBytes n above left source out)
    ∷ (7 when Some 0 (λ v. 2 ^ bits - 1 < v) (take (n * n) (samples_of source))) ∷ [])
unfolding choice_no
choose bits n above left source out =
    exact_row (depth bits) refl
    (λ e. exact_row (size n) refl
    (λ e. exact_row
    (all_of (all_of (all_of (at-most 130 (length above)) (at-most 130 (length left))) (at-most (2 * (n * n)) (length source)))
    (at-most 8 (length out))) refl
    (λ e. exact_row (every_one 0 (λ v. at-most v (2 ^ bits - 1)) (take (n * n) (samples_of source))) refl (λ e. exact_none))))
