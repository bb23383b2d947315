use mathlib.Core.Path.{◌≡◌}
use Prim.Native.Nat.{ℕ, ◌-◌, ◌≤◌}
use lib.ListN.{length, get_or}
use Rattle.samples.specs.taps.Taps.{edge_of}
use Rattle.laws.specs.Fill.{fill}
use Rattle.predict.proofs.angular.edges.Given as goal

abbrev pub invariant-loop-i : goal.invariant-loop-i
invariant-loop-i l = (l.i ≤ l.n) × ((length l.t ≡ length l.initial.t) × (l.t ≡ fill (λ (k : ℕ). edge_of l.max l.a (get_or l.side k 0) l.corner) l.i l.initial.t))

abbrev pub decreases-loop-i : goal.decreases-loop-i
decreases-loop-i l = l.n - l.i
