-- The sample at two bytes, and 0 past the last whole sample. Assumes nothing.
use Rattle.std.proofs.Common.{refl, sym, ◌∙◌, arith}
use Rattle.std.proofs.Math.ListN.{get_or-eq_default}
use Rattle.octets.specs.Bytes.{samples_of}
use Rattle.octets.specs.Laws.{length_samples, sample-at}
use Rattle.octets.proofs.lent.RefSliceU8Samples.sample.Goals as goal

pub returns-then-i-self : goal.returns-then-i-self
returns-then-i-self c = c.sample.ensures ∙ sym (sample-at _ c.args.i _ refl (omega (arith, c.if-i-self.true)))

pub returns-else-i-self : goal.returns-else-i-self
returns-else-i-self c =
    sym (get_or-eq_default (samples_of c.args.self.now) 0 (omega (arith, c.if-i-self.false, length_samples c.args.self.now)))
