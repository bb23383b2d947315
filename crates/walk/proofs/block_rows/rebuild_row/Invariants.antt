use Rattle.std.proofs.Common.{◌≡◌, ℕ, ◌+◌, get_or}
use Rattle.std.specs.Prelude.{pos, ◌+ℤ◌}
use Rattle.laws.specs.Fill.{run}
use Rattle.h265.specs.Notation.{clip_to}
use Rattle.walk.proofs.block_rows.rebuild_row.Given as goal

abbrev pub invariant-loop-c : goal.invariant-loop-c
invariant-loop-c l =
    l.plane ≡ run (λ (j : ℕ). clip_to l.largest (pos (get_or l.pred (l.from + j) 0) +ℤ get_or l.residuals (l.at + j) (pos 0))) l.base l.c
    l.initial.plane
