use mathlib.Core.Path.{◌≡◌}
use Prim.Native.Nat.{ℕ, ◌+◌, ◌*◌, ◌≤◌}
use Rattle.laws.specs.Sum.{total}
use Rattle.errors.specs.Errors.{error_at}
use Rattle.errors.proofs.rows_squares.Given as goal

abbrev pub invariant-loop-r : goal.invariant-loop-r
invariant-loop-r g l = let list = g.S.Samples.list in
    (l.sum ≤ l.r * 536608800)
    × (l.sum ≡ total (λ (y : ℕ). total (λ (x : ℕ). error_at (list l.a) (list l.b) l.width (l.row + y) (l.col + x)) l.n) l.r)
