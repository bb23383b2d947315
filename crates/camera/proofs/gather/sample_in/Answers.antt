-- The two bytes of a sample. Assumes nothing.
use mathlib.Core.Path.{refl, sym, ◌∙◌}
use native.Mathlib.Omega.{arith}
use Rattle.octets.specs.Laws.{length_samples, sample-at}
use Rattle.camera.proofs.gather.sample_in.Goals as goal

pub overflow_mul-low : goal.overflow_mul-low
overflow_mul-low c = omega (arith, length_samples c.args.plane.now, c.requires)

pub overflow_add-high : goal.overflow_add-high
overflow_add-high c = omega (arith, length_samples c.args.plane.now, c.requires)

pub bounds-plane-low : goal.bounds-plane-low
bounds-plane-low c = omega (arith, length_samples c.args.plane.now, c.requires)

pub bounds-plane-high : goal.bounds-plane-high
bounds-plane-high c = omega (arith, length_samples c.args.plane.now, c.requires)

pub returns : goal.returns
returns c = c.sample.ensures ∙ sym (sample-at c.args.plane.now c.args.at _ refl (omega (arith, length_samples c.args.plane.now, c.requires)))
