use Rattle.std.proofs.Common.{◌≡◌, ℕ, ◌+◌, ◌*◌, get_or}
use Rattle.std.specs.Prelude.{pos, ◌+ℤ◌}
use Rattle.laws.specs.Paint.{paint}
use Rattle.h265.specs.Notation.{clip_to}
use Rattle.walk.proofs.block_rows.rebuild_rows.Given as goal

abbrev pub invariant-loop-r : goal.invariant-loop-r
invariant-loop-r l =
    l.plane ≡ paint l.base l.width l.n
    (λ (i j : ℕ). clip_to l.largest (pos (get_or l.pred (i * l.n + j) 0) +ℤ get_or l.residuals (l.at + i * l.n + j) (pos 0))) l.r
    l.initial.plane
