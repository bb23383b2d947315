-- `replay::residual_at` meets its contract. Rests on the laws of bytes.
use mathlib.Core.Path.{refl, sym, ◌∙◌}
use Prim.Native.Nat.{◌*◌}
use native.Mathlib.Omega.{arith}
use Rattle.laws.specs.Signed.{held}
use Rattle.octets.specs.Laws.{residual_in, residual-at}
use Rattle.camera.proofs.replay.residual_at.Goals as goal

pub overflow_mul-at : goal.overflow_mul-at
overflow_mul-at c = omega (arith, residual_in _ _ c.requires)

pub bounds-b-at : goal.bounds-b-at
bounds-b-at c = omega (arith, residual_in _ _ c.requires)

pub overflow_add-at : goal.overflow_add-at
overflow_add-at c = omega (arith, residual_in _ _ c.requires)

pub bounds-b-at-2 : goal.bounds-b-at-2
bounds-b-at-2 c = omega (arith, residual_in _ _ c.requires)

pub overflow_add-at-2 : goal.overflow_add-at-2
overflow_add-at-2 c = omega (arith, residual_in _ _ c.requires)

pub bounds-b-at-3 : goal.bounds-b-at-3
bounds-b-at-3 c = omega (arith, residual_in _ _ c.requires)

pub overflow_add-at-3 : goal.overflow_add-at-3
overflow_add-at-3 c = omega (arith, residual_in _ _ c.requires)

pub bounds-b-at-4 : goal.bounds-b-at-4
bounds-b-at-4 c = omega (arith, residual_in _ _ c.requires)

pub returns : goal.returns
returns c = held c.residual.result c.residual.type_inv ∙ c.residual.ensures ∙ sym (residual-at c.args.b.now c.args.i (4 * c.args.i) refl (residual_in _ _ c.requires))
