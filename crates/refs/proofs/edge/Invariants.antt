use Rattle.std.proofs.Common.{◌≡◌}
use Rattle.laws.specs.Fill.{fill}
use Rattle.refs.specs.Spots.{on_edge}
use Rattle.refs.proofs.edge.Given as goal

abbrev pub invariant-loop-i : goal.invariant-loop-i
invariant-loop-i l = l.out ≡ fill (on_edge l.plane l.at l.step) l.i l.initial.out
