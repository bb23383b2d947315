-- `smooth::filter_references` meets its contract where it is served: by the rows of the [1 2 1] form. Assumes nothing.
use Rattle.std.proofs.Common.{sym}
use Rattle.smooth.specs.Steps.{filter_served}
use Rattle.smooth.proofs.filter_references.Goals as goal

pub returns : goal.returns
returns c = let a = c.args in
    filter_served a.n a.corner a.above.now a.left.now (sym c.in_ok-check_rows.ensures) c.weak_row-a.ensures c.weak_row-l.ensures
