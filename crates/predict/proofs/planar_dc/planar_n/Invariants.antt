use Prim.Native.Nat.{ℕ, ◌-◌, ◌≤◌}
use mathlib.Core.Path.{◌≡◌}
use lib.ListN.{length, get_or}
use Rattle.laws.specs.Fill.{rows}
use Rattle.predict.specs.planar_dc.Flat.{planar_sample}
use Rattle.predict.proofs.planar_dc.planar_n.Given as goal

abbrev pub invariant-loop-row : goal.invariant-loop-row
invariant-loop-row l = (l.row ≤ l.n) × ((length l.pred ≡ length l.initial.pred) × (l.pred ≡ rows (λ (y x : ℕ). planar_sample l.n y x (get_or l.left y 0) (get_or l.above l.n 0) (get_or l.above x 0) (get_or l.left l.n 0)) l.n l.row l.initial.pred))

abbrev pub decreases-loop-row : goal.decreases-loop-row
decreases-loop-row l = l.n - l.row
