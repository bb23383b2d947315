use mathlib.Core.Path.{◌≡◌}
use Rattle.laws.specs.Fill.{rows}
use Rattle.choose.specs.Sums.{turned_at}
use Rattle.choose.proofs.turn.Given as goal

abbrev pub invariant-loop-r : goal.invariant-loop-r
invariant-loop-r l = l.turned ≡ rows (turned_at l.n l.source) l.n l.r l.initial.turned
