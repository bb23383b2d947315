-- The sample at two bytes. Assumes nothing.
use Rattle.std.proofs.Common.{refl, sym, ◌∙◌}
use Rattle.octets.specs.Laws.{sample_in, sample-at}
use Rattle.errors.proofs.plane.RefSliceU8Plane.there.Goals as goal

pub returns : goal.returns
returns c = c.sample.ensures ∙ sym (sample-at _ _ _ refl (sample_in _ _ c.requires))
