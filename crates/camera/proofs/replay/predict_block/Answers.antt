-- `replay::predict_block` meets its contract: the rows are gathered out of the bytes, and predicted from. Rests on the bridge.
use Rattle.std.proofs.Common.{ap, ◌∙◌, ◌/◌, length, arith}
use Rattle.octets.specs.Bytes.{samples_of}
use Rattle.camera.specs.gather.Door.{luma_bytes_door}
use Rattle.camera.specs.gather.Spelt.{luma_spelt}
use Rattle.walk.specs.Lent.{tables}
use Rattle.walk.specs.block.Bridge.{geometry_of}
use Rattle.walk.specs.block.PredictedLaws.{never_refused, predicted_is}
use Rattle.camera.proofs.replay.predict_block.Goals as goal

pub returns-in-Ok : goal.returns-in-Ok
returns-in-Ok c = let a = c.args in
    let h = c.requires in
    let p = c.predict_luma_tb_slices.ensures in
    let g = c.in-Ok.ensures ∙ ap (luma_bytes_door a.plane.now) c.geometry.ensures
    ∙ luma_spelt a.plane.now (geometry_of a.s a.b) (length a.plane.now / 2) (omega (arith, h.1.1)) in
    predicted_is a.s a.b (samples_of a.plane.now) (tables a.refs.now a.indices.now a.fractions.now) h.0 _ a.pred.now _ _ h.1.0 g p.0 p.1.0

pub returns-in_default : goal.returns-in_default
returns-in_default c = let a = c.args in
    let h = c.requires in
    let g = c.in_default.ensures ∙ ap (luma_bytes_door a.plane.now) c.geometry.ensures
    ∙ luma_spelt a.plane.now (geometry_of a.s a.b) (length a.plane.now / 2) (omega (arith, h.1.1)) in
    absurd (never_refused a.s a.b (samples_of a.plane.now) (tables a.refs.now a.indices.now a.fractions.now) h.0 _ g)
