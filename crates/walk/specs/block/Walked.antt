-- Document 01, 'Plan, walk, replay': one block of a walk, over flat lists in rows. Assumes nothing.
use Rattle.std.specs.Prelude.{ℕ, ◌+◌, List, ℤ, pos, ◌-ℤ◌}
use Rattle.laws.specs.Paint.{paint}
use Rattle.plan.specs.declared.tiling.Block.{Block}
use Rattle.plan.specs.tiling.Tiling.{place}
use Rattle.walk.specs.declared.checks.Still.{Still}
use Rattle.walk.specs.block.Predicted.{sample_at, predicted_at}
use Rattle.walk.specs.block.Rebuilt.{rebuilt}

-- walk: the block's residuals are the source less the prediction from the work plane
unfoldable pub stored : Still → List ℕ → Block → ℕ → List ℕ → List ℤ → List ℤ
stored s source b at work residuals =
    paint at b.side b.side
    (λ r c. pos (sample_at s source (b.row + r) (b.col + c)) -ℤ pos (predicted_at s b work r c))
    b.side residuals

-- what a walk writes
pub record World : Type 0 where
  pub work : List ℕ
  pub residuals : List ℤ

-- walk: the residuals are written, and the block is reconstructed from them
unfoldable pub walked : Still → List ℕ → Block → ℕ → World → World
walked s source b at w =
    let v = stored s source b at w.work w.residuals in
    record { work = rebuilt s b at v w.work; residuals = v }

-- block k of a plan: its residuals follow those of the blocks before it
abbrev pub walk_unit : Still → (ℕ → Block) → List ℕ → ℕ → World → World
walk_unit s plan source k w = walked s source (plan k) (place plan k) w
