-- `choice::choose` meets its contract: the number of the lengths, that of the samples, and where both are 0 the choice in eight bytes. Rests
-- on `put_word`.
use Rattle.std.proofs.Common.{refl, sym, arith}
use Rattle.std.proofs.lemmas.Result.{err_from_is_err_and}
use Prim.Native.Nat.{◌≤◌}
use lib.ListN.{length}
use Rattle.domain.specs.Refused.{never_0}
use Rattle.camera.specs.choice.Laws.{choosable, refused_lent, refused_samples, chosen, two_stored}
use borrow.Author.Rules.{rules}
use Rattle.camera.proofs.choice.choose.Goals as goal
use Rattle.camera.proofs.choice.choose.Goals.{In_ok-check_lent}

room : (c : In_ok-check_lent) → 8 ≤ length c.args.out.now
room c = (choosable _ _ _ _ _ _ (sym c.in_ok-check_lent.ensures)).1

pub returns-in_err-check_lent : goal.returns-in_err-check_lent
returns-in_err-check_lent c = let a = c.args in
    let p = err_from_is_err_and c.from_residual.result c.from_residual.ensures.1 in
    rw (p.1, p.2)
    (refused_lent a.bits a.n a.above.now a.left.now a.source.now a.out.now _ c.in_err-check_lent.ensures
    (never_0 c.in_err-check_lent.field-0.0))

pub choose_block-requires : goal.choose_block-requires
choose_block-requires c = (choosable _ _ _ _ _ _ (sym c.in_ok-check_lent.ensures)).0

pub returns-in_err-best : goal.returns-in_err-best
returns-in_err-best c = let a = c.args in
    let p = err_from_is_err_and c.from_residual-in_err-best.result c.from_residual-in_err-best.ensures.1 in
    rw (p.1, p.2)
    (refused_samples a.bits a.n a.above.now a.left.now a.source.now a.out.now _ c.in_ok-check_lent.ensures refl
    c.in_err-best.ensures (never_0 c.in_err-best.field-0.0))

pub put_word-requires : goal.put_word-requires
put_word-requires c = omega (arith, room (goal.at.put_word-requires c).In_ok-check_lent)

pub put_word-requires-2 : goal.put_word-requires-2
put_word-requires-2 c = let r = room (goal.at.put_word-requires-2 c).In_ok-check_lent in search rules

pub returns : goal.returns
returns c = let a = c.args in
    chosen a.bits a.n a.above.now a.left.now a.source.now a.out.now _ c.in_ok-check_lent.ensures refl
    c.in_ok-best.ensures refl
    (two_stored a.out.now _ _ (room (goal.at.returns c).In_ok-check_lent) c.put_word.ensures c.put_word-2.ensures)
