use Rattle.std.proofs.Common.{◌≡◌, ◌-◌}
use Rattle.laws.specs.Chain.{units}
use Rattle.octets.specs.Bytes.{samples_of, residuals_of}
use Rattle.plan.specs.tiling.Tiling.{place}
use Rattle.plan.specs.RecordPlan.{records_of}
use Rattle.walk.specs.block.Rebuilt.{replay_unit}
use Rattle.camera.proofs.replay.replay_blocks.Given as goal

abbrev pub invariant-loop-k : goal.invariant-loop-k
invariant-loop-k l =
    (l.at ≡ place (records_of l.plan).block l.k)
    × (samples_of l.plane
    ≡ units (replay_unit l.s (records_of l.plan).block (residuals_of l.residuals)) l.from (l.k - l.from) (samples_of l.initial.plane))
