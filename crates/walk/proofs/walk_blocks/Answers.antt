-- `walk::walk_blocks` meets its contract. The loop's invariant: the blocks from `from` on that are passed are done, `at` is the place of the
-- next, and the tables are as they were if there is no block. Rests on `walk_turn`.
use Rattle.std.proofs.Common.{ℕ, ◌<◌, refl, sym, ap₂, ◌∙◌, cond, arith}
use Rattle.std.specs.Prelude.{leb}
use Rattle.plan.specs.declared.tiling.Block.{Block}
use Rattle.walk.specs.Lent.{world}
use Rattle.walk.specs.block.Walked.{World, walked, walk_unit}
use Rattle.walk.specs.calls.Places.{place_none, place_more}
use Rattle.walk.specs.calls.Laws.{lies, ready}
use Rattle.walk.specs.calls.Turns.{turn_none, turn_more}
use Rattle.walk.proofs.walk_blocks.Goals as goal

pub loop-k-init : goal.loop-k-init
loop-k-init g c = (place_none _, (turn_none _ _ _, λ _. (refl, (refl, refl))))

pub walk_turn-at-requires : goal.walk_turn-at-requires
walk_turn-at-requires g c =
    let l = c.loop-k in
    let a = l.auto in
    let p = c.requires (omega arith) in
    let b = c.block-b.ensures in
    let k : l.k < (g.P.Blocks.plan c.args.plan).count = omega (arith, (c.requires (omega arith)).1.1, c.loop-k-test.true) in
    let e = l.invariant.0 in
    let o = lies _ _ _ _ _ p.0 l.k l.at _ k e b in (
      ready _ _ _ _ _ p.0 l.k l.at _ k e b _ _ _ _ a.work a.refs a.indices a.fractions,
      (record { resid_in = omega (arith, o.resid_in, a.residuals) }, p.1.0 ∙ sym a.work),
    )

pub loop-k-preserved : goal.loop-k-preserved
loop-k-preserved g c =
    let l = c.loop-k in
    let i = l.invariant in
    let a = c.args in
    let b = c.block-b.ensures in
    let t = c.walk_turn-at.ensures in
    let under = c.loop-k-test.true in
    let w : World = world l.work l.residuals in
    let unit = walk_unit a.s (g.P.Blocks.plan a.plan).block a.source.now in
    let done = t.1 ∙ ap₂ (λ (x : Block) (n : ℕ). cond (leb a.from l.k) (walked a.s a.source.now x n w) w) b i.0 in (
      t.0 ∙ place_more _ l.k l.at _ i.0 b,
      (turn_more unit a.from l.k (world a.work.now a.residuals.now) w _ i.1.0 done, λ z. absurd (omega (arith, z, under))),
    )
