-- `sums::store_checksum` meets its contract: the byte door's number and, where it is 0, its sum in four bytes. Rests on `put_word`.
use Rattle.std.proofs.Common.{ℕ, leb, length, sym, ap, ◌∙◌, arith}
use Rattle.checksum.specs.Answers.{Summed}
use Rattle.checksum.specs.Checksum.{checksum_on_bytes}
use Rattle.camera.specs.Written.{done}
use Rattle.camera.specs.sums.Entry.{word_into, checksum_entry}
use Rattle.camera.specs.sums.Laws.{has_room, word_stored}
use Rattle.camera.proofs.sums.store_checksum.Goals as goal

abbrev number : Summed → ℕ
number v = v.no

abbrev sum_of : Summed → ℕ
sum_of v = v.sum

pub put_word-requires : goal.put_word-requires
put_word-requires c = let a = c.args in
    omega (arith, has_room a.r a.sum a.plane.now a.out.now (sym (ap number c.in_ok-told.ensures)))

pub returns : goal.returns
unfolding checksum_entry
returns c = let a = c.args in
    let v = checksum_on_bytes a.r (leb 4 (length a.out.now)) a.plane.now a.sum in
    let is = c.in_ok-told.ensures in
    done v.no (word_into v.sum a.out.now) a.out.now (ap number is) (omega arith)
    (c.put_word.ensures
    ∙ word_stored a.out.now _ (has_room a.r a.sum a.plane.now a.out.now (sym (ap number is)))
    ∙ ap (λ (s : ℕ). word_into s a.out.now) (ap sum_of is))
