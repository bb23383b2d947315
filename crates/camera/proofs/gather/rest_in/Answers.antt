-- The last of the row above, or the corner. Assumes nothing.
use Prim.Native.Nat.{◌-◌}
use native.Mathlib.Omega.{arith}
use Rattle.octets.specs.Laws.{length_samples}
use Rattle.camera.proofs.gather.rest_in.Goals as goal

pub overflow_add-s : goal.overflow_add-s
overflow_add-s c = omega (arith, length_samples c.args.plane.now, c.requires.above_in (c.args.r.above - 1) (omega (arith, c.if-r-gt0.true)))
