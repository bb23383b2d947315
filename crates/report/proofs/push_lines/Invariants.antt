use Rattle.std.proofs.Common.{◌≡◌, ◌*◌, ◌≤◌, length, drop}
use Rattle.plan.specs.tiling.Plan.{listed}
use Rattle.plan.specs.tiling.Tiling.{place}
use Rattle.report.specs.Told.{lines}
use Rattle.report.proofs.push_lines.Given as goal

abbrev pub invariant-loop-b : goal.invariant-loop-b
invariant-loop-b l =
    record {
      rest_is : l.rest ≡ drop (place (listed l.plan).block l.b-index) l.residuals;
      bytes : l.text.bytes ≡ lines (listed l.plan).block l.residuals l.b-index;
      short : length l.text.bytes ≤ 105 * l.b-index;
    }
