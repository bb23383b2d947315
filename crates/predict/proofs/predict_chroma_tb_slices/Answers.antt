-- `predict::predict_chroma_tb_slices` meets its contract. The block of the mode with nothing filtered is chroma's. Rests on `by_mode`.
use Rattle.std.proofs.Common.{sym, ap, ◌∙◌, refl}
use Rattle.h265.specs.Notation.{from_rows}
use Rattle.predict.specs.declared.refusals.Lent.{Lent}
use Rattle.predict.specs.refusals.Refusals.{lengths_of, predict_no}
use Rattle.predict.specs.by_mode.Door.{given, side}
use Rattle.predict.specs.Contents.{chroma-block}
use Rattle.predict.proofs.predict_chroma_tb_slices.Goals as goal

pub returns : goal.returns
returns c = let a = c.args in
    let no = c.in_ok-check_predict.ensures in
    let g = given a.bits a.n a.mode _ (sym no) in
    let nb = from_rows a.corner a.above.now a.left.now in (
      no ∙ ap (λ (l : Lent). predict_no a.bits a.n a.mode (lengths_of l)) c.of-lent.ensures,
      (c.by_mode.ensures ∙ chroma-block a.bits a.n a.mode (side g.block) a.pred.now nb, λ q. absurd (q refl)),
    )
