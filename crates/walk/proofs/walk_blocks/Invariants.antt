use Rattle.std.proofs.Common.{◌≡◌, ◌-◌}
use Rattle.laws.specs.Chain.{units}
use Rattle.plan.specs.tiling.Tiling.{place}
use Rattle.walk.specs.Lent.{world}
use Rattle.walk.specs.block.Walked.{walk_unit}
use Rattle.walk.proofs.walk_blocks.Given as goal

abbrev pub invariant-loop-k : goal.invariant-loop-k
invariant-loop-k g l =
    (l.at ≡ place (g.P.Blocks.plan l.plan).block l.k)
    × ((world l.work l.residuals
    ≡ units (walk_unit l.s (g.P.Blocks.plan l.plan).block l.source) l.from (l.k - l.from)
    (world l.initial.work l.initial.residuals))
    × (l.upto ≡ 0 → (l.refs ≡ l.initial.refs) × ((l.indices ≡ l.initial.indices) × (l.fractions ≡ l.initial.fractions))))
