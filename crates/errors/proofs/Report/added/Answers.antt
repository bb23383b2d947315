-- The sum of two reports, figure by figure. Assumes nothing.
use Rattle.errors.specs.Added.{join_fits}
use Rattle.errors.proofs.Report.added.Goals as goal

pub figures_added-requires-2 : goal.figures_added-requires-2
figures_added-requires-2 c m = (join_fits _ _ c.requires m).1.0

pub figures_added-requires-3 : goal.figures_added-requires-3
figures_added-requires-3 c m = (join_fits _ _ c.requires m).1.1
