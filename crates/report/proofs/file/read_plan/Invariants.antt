use Rattle.std.proofs.Common.{ℕ, ◌≡◌, ◌+◌, ◌*◌, replicate}
use Rattle.laws.specs.Fill.{fill}
use Rattle.plan.specs.tiling.Plan.{no_block}
use Rattle.report.specs.file.File.{block_in}
use Rattle.report.proofs.file.read_plan.Given as goal

abbrev pub invariant-loop-k : goal.invariant-loop-k
invariant-loop-k l = l.plan ≡ fill (λ (j : ℕ). block_in l.b (l.at + 6 * j)) l.k (replicate 512 no_block)
