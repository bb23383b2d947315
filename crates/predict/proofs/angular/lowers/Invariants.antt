use Prim.Native.Nat.{ℕ, ◌+◌, ◌-◌, ◌≤◌}
use mathlib.Core.Path.{◌≡◌}
use lib.ListN.{length}
use Rattle.laws.specs.Fill.{run}
use Rattle.predict.specs.angular.Unsigned.{ref_at}
use mathlib.Core.List.{List}
use Rattle.h265.specs.Notation.{from_rows}
use Rattle.predict.proofs.angular.lowers.Given as goal

abbrev pub invariant-loop-i : goal.invariant-loop-i
invariant-loop-i l = (l.i ≤ l.count) × ((length l.refs ≡ length l.initial.refs) × ((main : List ℕ) → l.refs ≡ run (λ (k : ℕ). ref_at (from_rows l.corner main l.side) l.inv (l.lo + k)) l.lo l.i l.initial.refs))

abbrev pub decreases-loop-i : goal.decreases-loop-i
decreases-loop-i l = l.count - l.i
