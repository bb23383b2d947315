use Prim.Native.Nat.{ℕ, ◌-◌, ◌≤◌}
use mathlib.Core.Path.{◌≡◌}
use lib.ListN.{length, get_or}
use Rattle.laws.specs.Fill.{fill}
use Rattle.samples.specs.taps.Taps.{blended}
use Rattle.predict.proofs.planar_dc.blend_row.Given as goal

abbrev pub invariant-loop-col : goal.invariant-loop-col
invariant-loop-col l = (l.col ≤ l.n) × ((length l.out ≡ length l.initial.out) × (l.out ≡ fill (λ (x : ℕ). blended (get_or l.above x 0) l.dc) l.col l.initial.out))

abbrev pub decreases-loop-col : goal.decreases-loop-col
decreases-loop-col l = l.n - l.col
