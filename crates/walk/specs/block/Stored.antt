-- The residuals of one block of the walk: how many, and what each is. Rests on the laws of paint.
use Rattle.std.specs.Prelude.{◌≡◌, List, ℕ, ◌+◌, ◌*◌, ◌<◌, length, get_or, ℤ, pos, ◌-ℤ◌}
use Rattle.std.proofs.Common.{arith}
use Rattle.laws.specs.Paint.{paint_in, length_paint}
use Rattle.plan.specs.declared.tiling.Block.{Block}
use Rattle.walk.specs.declared.checks.Still.{Still}
use Rattle.walk.specs.block.Predicted.{sample_at, predicted_at}
use Rattle.walk.specs.block.Walked.{stored}

module _ (s : Still) (source : List ℕ) (b : Block) (at : ℕ) (work : List ℕ) (v : List ℤ) where
  pub stored_length : length (stored s source b at work v) ≡ length v
  unfolding stored
  stored_length = length_paint _ _ _ _ b.side v

  -- each is the source's sample less the prediction of that sample from the work plane
  pub stored_at : (r c : ℕ) → r < b.side → c < b.side → at + r * b.side + c < length v
      → get_or (stored s source b at work v) (at + r * b.side + c) (pos 0)
      ≡ pos (sample_at s source (b.row + r) (b.col + c)) -ℤ pos (predicted_at s b work r c)
  unfolding stored
  stored_at r c l m h = paint_in at b.side b.side _ b.side v r c (pos 0) (omega arith) l m h
