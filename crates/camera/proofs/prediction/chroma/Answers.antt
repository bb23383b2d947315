-- `prediction::chroma` meets its contract. Rests on `by_mode`.
use Rattle.std.proofs.Common.{◌∙◌}
use Rattle.camera.specs.Written.{same_entry}
use Rattle.camera.specs.prediction.Entries.{chroma_block_entry}
use Rattle.camera.specs.prediction.Blocks.{chroma_asked}
use Rattle.camera.proofs.prediction.chroma.Goals as goal

pub returns : goal.returns
unfolding chroma_block_entry
returns c = let a = c.args in
    c.by_mode.ensures ∙ same_entry _ _ _ _ (λ z. chroma_asked a.n a.above.now a.left.now a.out.now a.bits a.mode a.corner)
