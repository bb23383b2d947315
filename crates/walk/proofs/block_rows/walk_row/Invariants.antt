use Rattle.std.proofs.Common.{◌≡◌, ℕ, ◌+◌}
use Rattle.laws.specs.Fill.{run}
use Rattle.walk.specs.block_rows.Rows.{less_at, back_at_block}
use Rattle.walk.proofs.block_rows.walk_row.Given as goal

abbrev pub invariant-loop-c : goal.invariant-loop-c
invariant-loop-c l =
    (l.residuals ≡ run (λ (j : ℕ). less_at l.source l.pred (l.base + j) (l.from + j)) l.at l.c l.initial.residuals)
    × (l.work ≡ run (λ (j : ℕ). back_at_block l.largest l.source l.pred (l.base + j) (l.from + j)) l.base l.c l.initial.work)
