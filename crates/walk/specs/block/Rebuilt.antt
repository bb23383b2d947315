-- Document 01, 'Plan, walk, replay': one block of a replay, over flat lists in rows. Assumes nothing.
use Rattle.std.specs.Prelude.{ℕ, ◌+◌, ◌*◌, List, ℤ, pos, ◌+ℤ◌, get_or}
use Rattle.laws.specs.Paint.{paint}
use Rattle.h265.specs.Notation.{clip_to}
use Rattle.plan.specs.declared.tiling.Block.{Block}
use Rattle.plan.specs.tiling.Tiling.{place}
use Rattle.walk.specs.declared.checks.Still.{Still}
use Rattle.walk.specs.checks.Checks.{largest_in}
use Rattle.walk.specs.block.Predicted.{predicted_at}

-- replay: the block holds prediction plus residual, clamped; its residuals are in rows from `at` on
unfoldable pub rebuilt : Still → Block → ℕ → List ℤ → List ℕ → List ℕ
rebuilt s b at residuals plane =
    paint (b.row * s.frame.width + b.col) s.frame.width b.side
    (λ r c. clip_to (largest_in s) (pos (predicted_at s b plane r c) +ℤ get_or residuals (at + r * b.side + c) (pos 0)))
    b.side plane

-- block k of a plan: its residuals follow those of the blocks before it
abbrev pub replay_unit : Still → (ℕ → Block) → List ℤ → ℕ → List ℕ → List ℕ
replay_unit s plan residuals k plane = rebuilt s (plan k) (place plan k) residuals plane
