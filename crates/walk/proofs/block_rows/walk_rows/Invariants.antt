use Rattle.std.proofs.Common.{◌≡◌, ℕ, ◌+◌, ◌*◌}
use Rattle.laws.specs.Paint.{paint}
use Rattle.walk.specs.block_rows.Rows.{less_at, back_at_block}
use Rattle.walk.proofs.block_rows.walk_rows.Given as goal

abbrev pub invariant-loop-r : goal.invariant-loop-r
invariant-loop-r l =
    (l.residuals
    ≡ paint l.at l.n l.n (λ (i j : ℕ). less_at l.source l.pred (l.base + i * l.width + j) (i * l.n + j)) l.r l.initial.residuals)
    × (l.work
    ≡ paint l.base l.width l.n (λ (i j : ℕ). back_at_block l.largest l.source l.pred (l.base + i * l.width + j) (i * l.n + j)) l.r
    l.initial.work)
