-- The first sample that is there: the last of the left column, else the corner, else the first of the row above. Assumes nothing.
use Prim.Native.Nat.{◌-◌}
use native.Mathlib.Omega.{arith}
use Rattle.octets.specs.Laws.{length_samples}
use Rattle.camera.proofs.gather.start_in.Goals as goal

pub overflow_mul-r : goal.overflow_mul-r
overflow_mul-r c = omega (arith, length_samples c.args.plane.now, c.requires.0.left_in (c.args.r.left - 1) (omega (arith, c.if-r-gt0.true)))

pub overflow_add-s : goal.overflow_add-s
overflow_add-s c = omega (arith, length_samples c.args.plane.now, c.requires.0.left_in (c.args.r.left - 1) (omega (arith, c.if-r-gt0.true)))
