-- Four bytes are two samples. Assumes nothing.
use Rattle.std.proofs.Common.{arith}
use Rattle.octets.specs.Laws.{AreBytes, samples_below}
use Rattle.octets.specs.pairs.Words.{four_bytes}
use Rattle.octets.proofs.pairs.pair_in.Goals as goal

pub returns : goal.returns
returns c = let a = c.args in
    let e = four_bytes a.row.now a.i c.requires in
    let b : AreBytes a.row.now = λ i. (c.type_inv.row i).fits in
    (omega (arith, c.from_le_bytes.ensures), samples_below _ b)
