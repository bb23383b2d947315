use Prim.Native.Nat.{ℕ, ◌-◌, ◌≤◌}
use mathlib.Core.Path.{◌≡◌}
use lib.ListN.{length, get_or}
use Rattle.laws.specs.Fill.{run}
use Rattle.predict.proofs.planar_dc.put_row.Given as goal

abbrev pub invariant-loop-col : goal.invariant-loop-col
invariant-loop-col l = (l.col ≤ l.n) × ((length l.pred ≡ length l.initial.pred) × (l.pred ≡ run (λ (x : ℕ). get_or l.samples x 0) l.at l.col l.initial.pred))

abbrev pub decreases-loop-col : goal.decreases-loop-col
decreases-loop-col l = l.n - l.col
