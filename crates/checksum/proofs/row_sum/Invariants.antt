use Rattle.std.proofs.Common.{◌≡◌, ℕ, ◌+◌, ◌*◌, ◌≤◌, get_or}
use Rattle.laws.specs.Sum.{total}
use Rattle.checksum.specs.Laws.{column_adds}
use Rattle.checksum.proofs.row_sum.Given as goal

abbrev pub invariant-loop-x : goal.invariant-loop-x
invariant-loop-x g l =
    (l.x ≤ l.width) × (l.sum ≤ l.x * 510)
    × (l.sum ≡ total (column_adds l.wide (λ (i : ℕ). get_or (g.S.Samples.list l.plane) (l.at + i) 0) l.y) l.x)
