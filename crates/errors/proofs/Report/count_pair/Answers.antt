-- A pair that is not refused: its blocks one after the other, each mode's figures raised by those of the blocks passed. Rests on the turns
-- of the loop.
use mathlib.Core.Bool.{◌&&◌}
use Rattle.std.proofs.Common.{◌≡◌, sym, ap, subst, ◌∙◌, arith, rules}
use Rattle.laws.specs.Choose.{both_true}
use Rattle.errors.specs.declared.Report.{Report}
use Rattle.errors.specs.Errors.{plane_area}
use Rattle.errors.specs.Served.{RoomFor, pair_of}
use Rattle.errors.specs.Blocks.{with_block}
use Rattle.std.proofs.lemmas.Grind.{common_steps}
use Rattle.errors.proofs.Counted.{begun, ended}
use Rattle.errors.proofs.Turns.{first_none, turn_room, turn_first}
use Rattle.errors.proofs.Report.count_pair.Goals as goal

-- that the pair is not refused is left to a tactic, which finds it whatever step tells it
pub loop-k-init : goal.loop-k-init
loop-k-init g c = let a = c.args in let s = g.S.Samples in (
  begun a.self (s.exactly a.a (plane_area a.self) && s.exactly a.b (plane_area a.self)) (s.list a.a) (s.list a.b) (g.P.Blocks.plan a.plan)
      (grind (arith, common_steps)),
  first_none a.self _ _ (g.P.Blocks.plan a.plan) (search rules),
)

pub overflow_add-next : goal.overflow_add-next
overflow_add-next g c =
    let a = c.args in
    let s = g.S.Samples in
    let plan = g.P.Blocks.plan a.plan in
    let k = begun a.self (s.exactly a.a (plane_area a.self) && s.exactly a.b (plane_area a.self)) (s.list a.a) (s.list a.b) plan
    (grind (arith, common_steps)) in
    record { fits = omega (arith, k.few) }

pub block_squares-squares-requires : goal.block_squares-squares-requires
block_squares-squares-requires g c = let a = c.args in
    let e = c.loop-k.invariant.0 in
    let f = both_true _ _ e.fits in
    let n = plane_area a.self in
    let whole = g.met.S.Samples.whole in
    pair_of e c.loop-k.k _ c.block-t.ensures (omega (arith, c.loop-k-test.true, c.count-k-end.ensures)) (whole a.a n f.0) (whole a.b n f.1)

pub add_block-requires : goal.add_block-requires
add_block-requires g c =
    subst (λ (r : Report). RoomFor r.blocks r.samples r.squares c.block-t.result c.block_squares-squares.result)
    (sym c.loop-k.invariant.1)
    (turn_room c.loop-k.invariant.0 (search rules) (omega (arith, c.loop-k-test.true, c.count-k-end.ensures)) c.block-t.ensures
    c.block_squares-squares.ensures)

pub loop-k-preserved : goal.loop-k-preserved
loop-k-preserved g c = (
  c.loop-k.invariant.0,
  c.add_block.ensures ∙ ap (λ (r : Report). with_block r c.block-t.result c.block_squares-squares.result) c.loop-k.invariant.1
      ∙ turn_first c.loop-k.invariant.0 (search rules) (omega (arith, c.loop-k-test.true, c.count-k-end.ensures)) c.block-t.ensures
      c.block_squares-squares.ensures,
)

pub returns-after-loop-k : goal.returns-after-loop-k
returns-after-loop-k g c =
    let a = c.args in
    let plan = g.P.Blocks.plan a.plan in
    let l = c.loop-k in
    let list = g.S.Samples.list in
    let n : l.k ≡ plan.count = omega (arith, c.loop-k-test.false, c.count-k-end.ensures, l.auto.k-end) in
    ended a.self (list a.a) (list a.b) plan _ l.next l.k (grind (arith, common_steps)) l.invariant.1 n
