use Rattle.std.proofs.Common.{◌≡◌, ℕ, ◌+◌, ◌*◌, ◌≤◌, get_or}
use Rattle.laws.specs.Sum.{total}
use Rattle.checksum.specs.Laws.{column_adds}
use Rattle.checksum.proofs.stretch_sum.Given as goal

abbrev pub invariant-loop-i : goal.invariant-loop-i
invariant-loop-i g l =
    (l.sum ≤ l.i * 510)
    × (l.sum ≡ total (λ (j : ℕ). column_adds l.wide (λ (k : ℕ). get_or (g.S.Samples.list l.plane) (l.at + k) 0) l.y (l.x + j)) l.i)
