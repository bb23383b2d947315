use Rattle.std.proofs.Common.{◌≡◌, ◌-◌}
use Rattle.laws.specs.Chain.{units}
use Rattle.plan.specs.tiling.Tiling.{place}
use Rattle.walk.specs.block.Rebuilt.{replay_unit}
use Rattle.walk.proofs.replay_blocks.Given as goal

abbrev pub invariant-loop-k : goal.invariant-loop-k
invariant-loop-k g l =
    (l.at ≡ place (g.P.Blocks.plan l.plan).block l.k)
    × ((l.plane ≡ units (replay_unit l.s (g.P.Blocks.plan l.plan).block l.residuals) l.from (l.k - l.from) l.initial.plane)
    × (l.upto ≡ 0 → (l.refs ≡ l.initial.refs) × ((l.indices ≡ l.initial.indices) × (l.fractions ≡ l.initial.fractions))))
