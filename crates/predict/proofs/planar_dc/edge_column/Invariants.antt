use Prim.Native.Nat.{ℕ, ◌-◌, ◌≤◌}
use mathlib.Core.Path.{◌≡◌}
use lib.ListN.{length, get_or}
use Rattle.predict.specs.planar_dc.Stores.{heads}
use Rattle.samples.specs.taps.Taps.{blended}
use Rattle.predict.proofs.planar_dc.edge_column.Given as goal

abbrev pub invariant-loop-row : goal.invariant-loop-row
invariant-loop-row l = (l.row ≤ l.n) × ((length l.pred ≡ length l.initial.pred) × (l.pred ≡ heads (λ (y : ℕ). blended (get_or l.left y 0) l.dc) l.n l.row l.initial.pred))

abbrev pub decreases-loop-row : goal.decreases-loop-row
decreases-loop-row l = l.n - l.row
