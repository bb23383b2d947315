-- A number from its highest byte on. Assumes nothing.
use mathlib.Core.Path.{refl}
use Prim.Native.Nat.{◌+◌, ◌-◌}
use native.Mathlib.Omega.{arith}
use Rattle.errors.specs.RecordLaws.{number_none, number_more, number_small, number_fits}
use Rattle.errors.proofs.record.number_at.Goals as goal

pub loop-i-init : goal.loop-i-init
loop-i-init c = number_none _ _ _

pub overflow_mul-v : goal.overflow_mul-v
overflow_mul-v c = let l = c.loop-i in omega (arith, number_fits _ _ c.loop-i-test.true l.auto.i c.requires.1 l.invariant.1)

pub overflow_add-v-in-loop-i : goal.overflow_add-v-in-loop-i
overflow_add-v-in-loop-i c = let l = c.loop-i in
    omega (arith, number_fits _ _ c.loop-i-test.true l.auto.i c.requires.1 l.invariant.1, c.type_inv.b (c.args.at + (l.i - 1)))

pub loop-i-preserved : goal.loop-i-preserved
loop-i-preserved c = let l = c.loop-i in
    let t = c.loop-i-test.true in (
      number_more _ _ _ l.i t l.auto.i l.invariant.0 refl,
      number_small _ l.i t l.auto.i l.invariant.1 (omega (arith, c.type_inv.b (c.args.at + (l.i - 1)))),
    )
