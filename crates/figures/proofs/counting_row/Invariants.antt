-- Every entry before i is written.
use Rattle.std.proofs.Common.{◌≡◌, ℕ, length, replicate}
use Rattle.laws.specs.Fill.{fill}
use Rattle.figures.proofs.counting_row.Given as goal

abbrev pub invariant-loop-i : goal.invariant-loop-i
invariant-loop-i l = (65 ≡ length l.row) × (l.row ≡ fill (λ (k : ℕ). k) l.i (replicate 65 0))
