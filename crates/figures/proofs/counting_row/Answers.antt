use Rattle.std.proofs.Common.{rules, refl}
use Rattle.laws.specs.FillLaws.{fill_none, fill_more}
use Rattle.figures.proofs.counting_row.Goals as goal

pub loop-i-init : goal.loop-i-init
loop-i-init c = (refl, fill_none _ _)

pub loop-i-preserved : goal.loop-i-preserved
loop-i-preserved c = (search rules, fill_more _ _ c.loop-i.invariant.1 refl)
