-- `prediction::dc` meets its contract. Rests on `flat`.
use Rattle.std.proofs.Common.{◌∙◌}
use Rattle.camera.specs.Written.{same_entry}
use Rattle.camera.specs.prediction.Blocks.{dc_asked}
use Rattle.camera.specs.prediction.Entries.{dc_entry}
use Rattle.camera.proofs.prediction.dc.Goals as goal

pub returns : goal.returns
unfolding dc_entry
returns c = let a = c.args in c.flat.ensures ∙ same_entry _ _ _ _ (λ z. dc_asked a.n a.above.now a.left.now a.out.now 8 0 _)
