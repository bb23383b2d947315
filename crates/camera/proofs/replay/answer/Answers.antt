-- `replay::answer` meets its contract. Rests on `put_word`.
use Prim.Native.Nat.{ℕ}
use mathlib.Core.Path.{ap, ◌∙◌}
use mathlib.Core.List.{List}
use Rattle.camera.specs.replay.VerdictLaws.{put_word, words_stored, short_kept}
use Rattle.camera.proofs.replay.answer.Goals as goal

pub returns-then-res-ge8 : goal.returns-then-res-ge8
returns-then-res-ge8 c = let a = c.args in
    c.put_word-then-res-ge8.ensures ∙ ap (λ (d : List ℕ). put_word d 4 a.next) c.put_word.ensures ∙ words_stored a.res.now a.block a.next c.if-res-ge8.true

pub returns-else-res-ge8 : goal.returns-else-res-ge8
returns-else-res-ge8 c = short_kept _ _ _ c.if-res-ge8.false
