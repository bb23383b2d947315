use Prim.Native.Nat.{ℕ, ◌-◌, ◌≤◌}
use mathlib.Core.Path.{◌≡◌}
use lib.ListN.{length, get_or}
use Rattle.laws.specs.Fill.{fill}
use Rattle.predict.specs.planar_dc.Flat.{planar_sample}
use Rattle.predict.proofs.planar_dc.planar_row.Given as goal

abbrev pub invariant-loop-col : goal.invariant-loop-col
invariant-loop-col l = (l.col ≤ l.n) × ((length l.out ≡ length l.initial.out) × (l.out ≡ fill (λ (x : ℕ). planar_sample l.n l.row x l.left l.top_right (get_or l.above x 0) l.bottom_left) l.col l.initial.out))

abbrev pub decreases-loop-col : goal.decreases-loop-col
decreases-loop-col l = l.n - l.col
