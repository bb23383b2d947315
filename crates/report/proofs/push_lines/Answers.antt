-- `report::push_lines` meets its contract. The loop keeps the lines of the blocks passed, and the residuals of the others.
use Rattle.std.proofs.Common.{◌*◌, ◌∙◌, refl, ap, arith, drop, take, length, length-drop}
use Rattle.std.specs.Prelude.{sum_by, nat_abs}
use Rattle.std.proofs.Math.Seq.{drop-drop}
use Rattle.plan.specs.tiling.Plan.{listed}
use Rattle.plan.specs.tiling.Tiling.{place}
use Rattle.walk.specs.calls.Places.{place_none, place_more}
use Rattle.report.specs.sums.Laws.{sum_is}
use Rattle.report.specs.Laws.{lines_none, lines_more, square, among}
use Rattle.report.proofs.push_lines.Goals as goal

pub loop-b-init : goal.loop-b-init
loop-b-init c =
    record {
      rest_is = ap (λ i. drop i c.args.residuals.now) (place_none _);
      bytes = c.requires.empty ∙ lines_none _ _;
      short = omega (arith, ap length c.requires.empty);
    }

pub split_at-requires : goal.split_at-requires
split_at-requires c =
    let p = listed c.args.plan.now in
    let v = c.args.residuals.now in
    let k = c.loop-b.b-index in
    let part = among p v c.requires.plan k _ _ c.loop-b-test.true refl refl in
    omega (arith, part, ap length c.loop-b.invariant.rest_is, length-drop (place p.block k) v)

pub sum_of-requires : goal.sum_of-requires
sum_of-requires c =
    let p = listed c.args.plan.now in
    let few = square p c.args.residuals.now c.requires.plan c.loop-b.b-index _ _ c.loop-b-test.true refl refl in
    omega (arith, c.split_at.ensures.front_len, few)

pub loop-b-preserved : goal.loop-b-preserved
loop-b-preserved c =
    let p = listed c.args.plan.now in
    let v = c.args.residuals.now in
    let l = c.loop-b in
    let k = l.b-index in
    let n = (p.block k).side * (p.block k).side in
    let e = l.invariant.rest_is in
    let part = among p v c.requires.plan k _ _ c.loop-b-test.true refl refl in
    let sum = c.sum_of.ensures ∙ ap (sum_by nat_abs) (c.split_at.ensures.front ∙ ap (take n) e) ∙ sum_is v (place p.block k) n part in
    record {
      rest_is = c.split_at.ensures.back ∙ ap (drop n) e ∙ drop-drop n (place p.block k) v
          ∙ ap (λ i. drop i v) (place_more p.block k _ _ refl refl);
      bytes = lines_more p.block v k l.invariant.bytes sum c.push_line.ensures.bytes;
      short = omega (arith, l.invariant.short, c.push_line.ensures.short);
    }
