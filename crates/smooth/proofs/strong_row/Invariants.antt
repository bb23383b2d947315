use mathlib.Core.Path.{◌≡◌}
use Prim.Native.Nat.{◌-◌, ◌≤◌}
use lib.ListN.{length, replicate}
use Rattle.laws.specs.Fill.{fill}
use Rattle.smooth.specs.Steps.{strong_entry}
use Rattle.smooth.proofs.strong_row.Given as goal

abbrev pub invariant-loop-x : goal.invariant-loop-x
invariant-loop-x l = (l.x ≤ 63) × ((length l.to ≡ 65) × (l.to ≡ fill (strong_entry l.corner l.row) l.x (replicate 65 0)))

abbrev pub decreases-loop-x : goal.decreases-loop-x
decreases-loop-x l = 63 - l.x
