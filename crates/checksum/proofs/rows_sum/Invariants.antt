use Rattle.std.proofs.Common.{◌≡◌, ◌-◌, ◌^◌, ◌<◌}
use Rattle.h265.specs.Checksum.{sum_of_rows}
use Rattle.checksum.specs.Checksum.{sample_in_plane}
use Rattle.checksum.proofs.rows_sum.Given as goal

abbrev pub invariant-loop-y : goal.invariant-loop-y
invariant-loop-y g l =
    (l.sum < 2 ^ 32)
    × (l.sum ≡ sum_of_rows l.r.bits (sample_in_plane (g.S.Samples.list l.plane) l.r.width) l.r.width l.r.first (l.y - l.r.first) l.sum-2)
