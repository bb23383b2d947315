-- The three values that are read, and the two edges. Assumes nothing.
use mathlib.Core.Path.{refl}
use Rattle.octets.specs.Bytes.{samples_of}
use Rattle.camera.specs.gather.Around.{around_made}
use Rattle.camera.proofs.gather.look_around.Goals as goal

pub returns : goal.returns
returns c = let a = c.args in around_made (samples_of a.plane.now) a.s a.r c.start_in-start.ensures c.corner_in-corner.ensures c.rest_in-rest.ensures refl
