-- `choice::choose_block` meets its contract: what it reads gives the choice of the bytes. Rests on the chooser.
use native.Mathlib.Omega.{arith}
use Rattle.octets.specs.Laws.{length_samples}
use Rattle.domain.specs.Facts.{size_of}
use Rattle.predict.specs.refusals.Refusals.{square}
use Rattle.camera.specs.choice.Laws.{choice_read}
use Rattle.camera.proofs.choice.choose_block.Goals as goal

pub read_samples-requires : goal.read_samples-requires
read_samples-requires c = let a = c.args in
    let b = c.requires in
    (omega (arith, length_samples a.source.now, b.source_long), square _ (size_of _ b.size))

pub returns : goal.returns
returns c = let a = c.args in
    let b = c.requires in
    choice_read a.bits a.n a.corner a.above.now a.left.now a.source.now b c.read_samples.ensures
    c.read_row.ensures c.read_row-2.ensures c.search.ensures
