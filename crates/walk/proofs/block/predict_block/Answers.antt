-- `block::predict_block` meets its contract: the rows are gathered, and predicted from. Rests on the bridge.
use Rattle.std.proofs.Common.{ap, ◌∙◌}
use Rattle.refs.specs.Door.{get_reference_samples}
use Rattle.walk.specs.Lent.{tables}
use Rattle.walk.specs.block.PredictedLaws.{never_refused, predicted_is}
use Rattle.walk.proofs.block.predict_block.Goals as goal

pub returns-in-Ok : goal.returns-in-Ok
returns-in-Ok c = let a = c.args in
    let h = c.requires in
    let p = c.predict_luma_tb_slices.ensures in
    let g = c.in-Ok.ensures ∙ ap (get_reference_samples a.plane.now) c.geometry.ensures in
    predicted_is a.s a.b a.plane.now (tables a.refs.now a.indices.now a.fractions.now) h.0 _ a.pred.now _ _ h.1 g p.0 p.1.0

pub returns-in_default : goal.returns-in_default
returns-in_default c = let a = c.args in
    let g = c.in_default.ensures ∙ ap (get_reference_samples a.plane.now) c.geometry.ensures in
    absurd (never_refused a.s a.b a.plane.now (tables a.refs.now a.indices.now a.fractions.now) c.requires.0 _ g)
