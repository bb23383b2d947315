-- `prediction::planar` meets its contract. Rests on `flat`.
use Rattle.std.proofs.Common.{◌∙◌}
use Rattle.camera.specs.Written.{same_entry}
use Rattle.camera.specs.prediction.Blocks.{planar_asked}
use Rattle.camera.specs.prediction.Entries.{planar_entry}
use Rattle.camera.proofs.prediction.planar.Goals as goal

pub returns : goal.returns
unfolding planar_entry
returns c = let a = c.args in c.flat.ensures ∙ same_entry _ _ _ _ (λ z. planar_asked a.n a.above.now a.left.now a.out.now 8 0)
