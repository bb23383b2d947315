-- What a row adds: the loop's sum is the total of the stretches passed. Assumes nothing.
use Rattle.std.proofs.Common.{◌≡◌, ◌+◌, ap, ◌∙◌, arith}
use Rattle.laws.specs.Sum.{total, total_none, total_join}
use Rattle.checksum.proofs.row_sum.Goals as goal

pub loop-x-init : goal.loop-x-init
loop-x-init g c = (omega arith, omega arith, total_none _)

pub loop-x-preserved : goal.loop-x-preserved
loop-x-preserved g c = let l = c.loop-x in
    let e : l.x + c.min-count.result ≡ l.x + 128 = omega arith in
    (omega arith, omega arith, total_join _ l.x c.min-count.result l.invariant.2 c.stretch_sum-more.ensures.0 ∙ ap (total _) e)

pub returns-2 : goal.returns-2
returns-2 g c = let l = c.loop-x in
    let e : l.x + c.min-count.result ≡ c.args.width = omega arith in
    total_join _ l.x c.min-count.result l.invariant.2 c.stretch_sum-more.ensures.0 ∙ ap (total _) e
