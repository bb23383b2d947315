-- `replay::replay_blocks` meets its contract. The loop's invariant: the blocks from `from` on that are passed are done, and `at` is the place
-- of the next. Rests on `replay_turn`.
use Rattle.std.proofs.Common.{ℕ, ◌/◌, ◌%◌, ◌<◌, ap, ◌∙◌, length, arith}
use Rattle.octets.specs.Laws.{samples_alike}
use Rattle.walk.specs.calls.Laws.{lies, ready}
use Rattle.camera.proofs.replay.replay_blocks.Goals as goal

pub replay_turn-at-requires : goal.replay_turn-at-requires
replay_turn-at-requires c =
    let l = c.loop-k in
    let u = l.auto in
    let p = c.requires in
    let k : l.k < length c.args.plan.now / 6 = omega (arith, p.1.0) in
    let b = c.record_at-b.ensures in
    let e = l.invariant.0 in (
      ready _ _ _ _ _ p.0 l.k l.at _ k e b _ _ _ _ (samples_alike l.plane c.args.plane.now u.plane) u.refs u.indices u.fractions,
      (lies _ _ _ _ _ p.0 l.k l.at _ k e b, ap (λ (m : ℕ). m % 2) u.plane ∙ p.1.1),
    )
