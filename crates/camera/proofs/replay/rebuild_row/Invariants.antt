use Rattle.std.proofs.Common.{◌≡◌, ℕ, ◌+◌, get_or}
use Rattle.std.specs.Prelude.{pos, ◌+ℤ◌}
use Rattle.laws.specs.Fill.{run}
use Rattle.h265.specs.Notation.{clip_to}
use Rattle.octets.specs.Bytes.{samples_of, residuals_of}
use Rattle.camera.proofs.replay.rebuild_row.Given as goal

abbrev pub invariant-loop-c : goal.invariant-loop-c
invariant-loop-c l =
    samples_of l.plane
    ≡ run (λ (j : ℕ). clip_to l.largest (pos (get_or l.pred (l.from + j) 0) +ℤ get_or (residuals_of l.residuals) (l.at + j) (pos 0))) l.base
    l.c (samples_of l.initial.plane)
