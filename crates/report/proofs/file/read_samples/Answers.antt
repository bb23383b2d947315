-- `file::read_samples` meets its contract. The loop keeps an equation with `fill`.
use Rattle.laws.specs.FillLaws.{fill_none, fill_more}
use Rattle.report.proofs.file.read_samples.Goals as goal

pub loop-i-init : goal.loop-i-init
loop-i-init c = fill_none _ _

pub loop-i-preserved : goal.loop-i-preserved
loop-i-preserved c = fill_more _ _ c.loop-i.invariant c.two_at.ensures
