-- `replay::put_sample` meets its contract: the two bytes of the sample are stored. Rests on the laws of bytes.
use Rattle.std.proofs.Common.{◌∙◌, ap, refl, arith}
use Rattle.octets.specs.Bytes.{samples_of}
use Rattle.octets.specs.Laws.{sample_in, two_bytes, store_sample}
use Rattle.camera.proofs.replay.put_sample.Goals as goal

pub put-requires : goal.put-requires
put-requires c = omega (arith, sample_in _ _ c.requires.0)

pub returns : goal.returns
returns c = ap samples_of c.put.ensures ∙ store_sample c.args.b.now c.args.i _ _ _ c.args.v refl c.requires.1 (two_bytes c.args.v _ _ c.ranges.v.fits refl refl)
