-- Small verdicts: a still of 16 by 8 samples with two blocks of 8, and what becomes of it. Assumes nothing.
use Rattle.std.specs.Prelude.{◌≡◌, refl, List, [], ◌∷◌, ℕ}
use Rattle.h265.specs.Notation.{halvings}
use Rattle.plan.specs.declared.tiling.Frame.{Frame}
use Rattle.plan.specs.declared.tiling.Block.{Block}
use Rattle.plan.specs.Answers.{Verdict}
use Rattle.plan.specs.tiling.Plan.{plan_of, listed}
use Rattle.plan.specs.tiling.Check.{ahead_by, ahead, block_number}
use Rattle.plan.specs.tiling.PlanCheck.{verdict_from, plan_verdict}

abbrev still : ℕ → ℕ → Frame
still width height = record { width = width; height = height; ctu = 16 }

abbrev at : ℕ → ℕ → ℕ → ℕ → Block
at row col side mode = record { row = row; col = col; side = side; mode = mode }

abbrev gives : ℕ → ℕ → Verdict
gives n k = record { no = n; block = k }

-- good; one alone; exchanged; the first twice; then a block outside, a mode above 34, a side of 5, a block of 32 in CTUs of 16,
-- sides of 12; 24 by 16, where of the second CTU there is the left half alone, and its cells come after all of the first; the good
-- one again as numbers, and with a mode that is missing, where sides of 12 come first
pub figures : ◌≡◌ {A = List Verdict}
    (plan_verdict (still 16 8) (listed (at 0 0 8 1 ∷ at 0 8 8 1 ∷ []))
    ∷ plan_verdict (still 16 8) (listed (at 0 0 8 1 ∷ []))
    ∷ plan_verdict (still 16 8) (listed (at 0 8 8 1 ∷ at 0 0 8 1 ∷ []))
    ∷ plan_verdict (still 16 8) (listed (at 0 0 8 1 ∷ at 0 0 8 1 ∷ []))
    ∷ plan_verdict (still 16 8) (listed (at 0 0 8 1 ∷ at 0 8 8 1 ∷ at 0 16 8 1 ∷ []))
    ∷ plan_verdict (still 16 8) (listed (at 0 0 8 34 ∷ at 0 8 8 35 ∷ []))
    ∷ plan_verdict (still 16 8) (listed (at 0 0 5 35 ∷ []))
    ∷ plan_verdict (still 32 32) (listed (at 0 0 32 0 ∷ []))
    ∷ plan_verdict (still 12 8) (listed [])
    ∷ plan_verdict (still 24 16) (listed (at 0 0 16 0 ∷ at 0 16 8 0 ∷ at 8 16 8 0 ∷ []))
    ∷ plan_verdict (still 24 16) (listed (at 0 0 8 0 ∷ at 0 8 8 0 ∷ at 0 16 8 0 ∷ []))
    ∷ plan_verdict (still 16 8) (plan_of (0 ∷ 0 ∷ []) (0 ∷ 8 ∷ []) (8 ∷ 8 ∷ []) (1 ∷ 1 ∷ []))
    ∷ plan_verdict (still 16 8) (plan_of (0 ∷ 0 ∷ []) (0 ∷ 8 ∷ []) (8 ∷ 8 ∷ []) (1 ∷ []))
    ∷ plan_verdict (still 12 8) (plan_of (0 ∷ 0 ∷ []) (0 ∷ 8 ∷ []) (8 ∷ 8 ∷ []) (1 ∷ []))
    ∷ [])
    (gives 0 0 ∷ gives 10 0 ∷ gives 9 0 ∷ gives 9 1 ∷ gives 6 2 ∷ gives 3 1 ∷ gives 2 0 ∷ gives 6 0 ∷ gives 4 0 ∷ gives 0 0 ∷ gives 9 2
    ∷ gives 0 0 ∷ gives 5 0 ∷ gives 4 0 ∷ [])
unfolding plan_verdict verdict_from block_number ahead ahead_by halvings
figures = refl
