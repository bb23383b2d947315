-- Document 01, 'Plan, walk, replay': the rows of one block of a walk, over what is lent. Assumes nothing.
use Rattle.std.specs.Prelude.{ℕ, ◌+◌, ◌*◌, List, ℤ, pos, ◌+ℤ◌, ◌-ℤ◌, get_or}
use Rattle.laws.specs.Paint.{paint}
use Rattle.h265.specs.Notation.{clip_to}

-- the source less the prediction, and the sample that it gives back
abbrev pub less_at : List ℕ → List ℕ → ℕ → ℕ → ℤ
less_at source pred i j = pos (get_or source i 0) -ℤ pos (get_or pred j 0)

abbrev pub back_at_block : ℕ → List ℕ → List ℕ → ℕ → ℕ → ℕ
back_at_block largest source pred i j = clip_to largest (pos (get_or pred j 0) +ℤ less_at source pred i j)

-- a block of side n: its samples in rows `width` apart from base on, its predictions in rows, its residuals in rows from `at` on
abbrev pub less_rows : List ℕ → List ℕ → ℕ → ℕ → ℕ → ℕ → List ℤ → List ℤ
less_rows source pred n base width at residuals = paint at n n (λ r c. less_at source pred (base + r * width + c) (r * n + c)) n residuals

abbrev pub back_rows : ℕ → List ℕ → List ℕ → ℕ → ℕ → ℕ → List ℕ → List ℕ
back_rows largest source pred n base width work = paint base width n (λ r c. back_at_block largest source pred (base + r * width + c) (r * n + c))
    n work
