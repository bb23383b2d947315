use mathlib.Core.Path.{◌≡◌}
use Prim.Native.Nat.{◌-◌, ◌≤◌}
use lib.ListN.{length, replicate}
use Rattle.laws.specs.Fill.{fill}
use Rattle.smooth.specs.Steps.{weak_entry}
use Rattle.smooth.proofs.weak_row.Given as goal

abbrev pub invariant-loop-x : goal.invariant-loop-x
invariant-loop-x l = (1 ≤ l.x) × ((l.x ≤ l.last) × ((length l.to ≡ 65) × (l.to ≡ fill (weak_entry l.n l.corner l.row) l.x (replicate 65 0))))

abbrev pub decreases-loop-x : goal.decreases-loop-x
decreases-loop-x l = l.last - l.x
