-- `sums::agrees` meets its contract: the slices' `==` is the comparison entry by entry.
use Rattle.std.proofs.Common.{◌∙◌}
use Rattle.report.specs.sums.Laws.{agree_all}
use Rattle.report.proofs.sums.agrees.Goals as goal

pub returns : goal.returns
returns c = c.eq.ensures ∙ agree_all _ _ c.requires
