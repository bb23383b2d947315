use mathlib.Core.Path.{◌≡◌}
use Prim.Native.Nat.{ℕ, ◌+◌, ◌*◌, ◌≤◌}
use lib.ListN.{get_or}
use Rattle.laws.specs.Sum.{total}
use Rattle.errors.specs.Errors.{square_apart}
use Rattle.errors.proofs.row_squares.Given as goal

abbrev pub invariant-loop-i : goal.invariant-loop-i
invariant-loop-i g l = let list = g.S.Samples.list in
    (l.sum ≤ l.i * 16769025)
    × (l.sum ≡ total (λ (c : ℕ). square_apart (get_or (list l.a) (l.at + c) 0) (get_or (list l.b) (l.at + c) 0)) l.i)
