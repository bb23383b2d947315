-- The rows one after the other. Assumes nothing.
use Rattle.std.proofs.Common.{◌≡◌, ◌*◌, ◌≤◌, ◌+◌, length, mod-lt, arith, refl}
use Rattle.laws.specs.Choose.{both_true}
use Rattle.checksum.specs.Checksum.{sample_in_plane}
use Rattle.checksum.specs.Served.{fine, row_low, row_in}
use Rattle.checksum.specs.Laws.{rows_none, rows_more}
use Rattle.checksum.proofs.rows_sum.Goals as goal

pub loop-y-init : goal.loop-y-init
loop-y-init g c = (omega (arith, c.ranges.sum), rows_none _ _ _ _ _)

pub overflow_cast-y-in-loop-y : goal.overflow_cast-y-in-loop-y
overflow_cast-y-in-loop-y g c = let f = fine _ _ _ c.requires in
    record { fits = omega (arith, c.loop-y-test.true, f.inside, f.low) }

pub row_sum-more-requires : goal.row_sum-more-requires
row_sum-more-requires g c = let r = c.args.r in
    let y = c.loop-y.y in
    let f = fine _ _ _ c.requires in
    let n = r.height * r.width in
    let i : y * r.width + r.width ≤ length (g.S.Samples.list c.args.plane) =
    row_in r _ _ _ c.requires
    (λ e. g.met.S.Samples.whole c.args.plane n (both_true c.args.roomy (g.S.Samples.exactly c.args.plane n) e).1) y c.loop-y-test.true in
    (row_low f y c.loop-y-test.true, i, f.narrow)

pub loop-y-preserved : goal.loop-y-preserved
loop-y-preserved g c = let a = c.args in
    let l = c.loop-y in (
      mod-lt (l.sum + c.row_sum-more.result) (omega arith),
      rows_more a.r.bits (sample_in_plane (g.S.Samples.list a.plane) a.r.width) a.r.width a.r.first a.sum l.y l.auto.y
          l.invariant.0 l.invariant.1 c.row_sum-more.ensures refl,
    )

pub returns : goal.returns
returns g c = let f = fine _ _ _ c.requires in
    let e : c.loop-y.y ≡ c.args.r.end = omega (arith, f.forward) in
    rw e at c.loop-y.invariant.1
