use Rattle.std.proofs.Common.{◌≡◌}
use Rattle.listing.specs.Drawn.{same_from}
use Rattle.listing.proofs.same_run.Given as goal

abbrev pub invariant-loop-i : goal.invariant-loop-i
invariant-loop-i l = l.all ≡ same_from l.line l.first l.written l.place l.i
