use mathlib.Core.Path.{◌≡◌}
use Prim.Native.Nat.{◌*◌}
use Rattle.laws.specs.Fill.{run}
use Rattle.choose.specs.Sums.{turned_at}
use Rattle.choose.proofs.turn_row.Given as goal

abbrev pub invariant-loop-c : goal.invariant-loop-c
invariant-loop-c l = l.turned ≡ run (turned_at l.n l.source l.r) (l.r * l.n) l.c l.initial.turned
