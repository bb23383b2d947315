-- Document 02's figures of the error report, at what the doors' contracts name: a still of 16 by 8 in two blocks of 8. Assumes nothing.
use Rattle.std.specs.Prelude.{◌≡◌, refl, List, [], ◌∷◌, ℕ, get_or, replicate}
use Rattle.laws.specs.Every.{every}
use Rattle.laws.specs.Fill.{fill}
use Rattle.laws.specs.Sum.{total}
use Rattle.h265.specs.Notation.{halvings}
use Rattle.plan.specs.declared.tiling.Frame.{Frame}
use Rattle.plan.specs.tiling.Plan.{Plan, plan_of}
use Rattle.plan.specs.tiling.Check.{ahead_by, ahead, block_number}
use Rattle.plan.specs.tiling.PlanCheck.{verdict_from, plan_verdict}
use Rattle.errors.specs.Answers.{Counted}
use Rattle.errors.specs.Errors.{fresh_report, keeps_limits, pair_no, settle_full, counted_by, count_pair}

abbrev still : Frame
still = record { width = 16; height = 8; ctu = 16 }

-- two blocks, of these modes
abbrev two_blocks : ℕ → ℕ → Plan
two_blocks m n = plan_of (0 ∷ 0 ∷ []) (0 ∷ 8 ∷ []) (8 ∷ 8 ∷ []) (m ∷ n ∷ [])

abbrev level : ℕ → List ℕ
level v = replicate 128 v

-- both blocks of mode 1, 10 against 13
abbrev first : Counted
first = count_pair (fresh_report 8 still) (level 10) (level 13) (two_blocks 1 1)

-- then modes 5 and 1, 0 against 255
abbrev second : Counted
second = count_pair first.next (level 0) (level 255) (two_blocks 5 1)

-- number and pairs, then blocks, samples and squares of a mode
abbrev figures : Counted → ℕ → List ℕ
figures v m =
    let r = v.next in v.no ∷ r.pairs ∷ get_or r.blocks m 0 ∷ get_or r.samples m 0 ∷ get_or r.squares m 0 ∷ []

pub of_first : figures first 1 ≡ 0 ∷ 1 ∷ 2 ∷ 128 ∷ 1152 ∷ []
unfolding counted_by settle_full pair_no keeps_limits every total fill plan_verdict verdict_from block_number ahead ahead_by halvings
of_first = refl

pub of_second : figures second 5 ≡ 0 ∷ 2 ∷ 1 ∷ 64 ∷ 4161600 ∷ []
unfolding counted_by settle_full pair_no keeps_limits every total fill plan_verdict verdict_from block_number ahead ahead_by halvings
of_second = refl

pub of_both : figures second 1 ≡ 0 ∷ 2 ∷ 3 ∷ 192 ∷ 4162752 ∷ []
unfolding counted_by settle_full pair_no keeps_limits every total fill plan_verdict verdict_from block_number ahead ahead_by halvings
of_both = refl
