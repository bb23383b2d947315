-- `file::read_plan` meets its contract. The loop keeps an equation with `fill`.
use Rattle.laws.specs.FillLaws.{fill_none, fill_more}
use Rattle.report.proofs.file.read_plan.Goals as goal

pub loop-k-init : goal.loop-k-init
loop-k-init c = fill_none _ _

pub loop-k-preserved : goal.loop-k-preserved
loop-k-preserved c = fill_more _ _ c.loop-k.invariant c.block_at.ensures
