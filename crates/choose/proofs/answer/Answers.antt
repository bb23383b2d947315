-- `choose::answer` meets its contract. The check, then the search. Rests on both.
use Rattle.std.proofs.Common.{sym, arith}
use lib.ListN.{length, replicate}
use Rattle.domain.specs.Facts.{size_of, size_small}
use Rattle.predict.specs.refusals.Refusals.{lengths, square}
use Rattle.choose.specs.Ready.{Ready, ready}
use Rattle.choose.specs.Sums.{is_turned}
use Rattle.choose.proofs.answer.Goals as goal
use Rattle.choose.proofs.answer.Goals.{In_ok-check_choice}

served : (c : In_ok-check_choice) → let a = c.args in Ready a.bits a.n (length a.source.now) (lengths (length a.above.now) (length a.left.now)
    (length a.pred.now) (length a.refs.now) (length a.indices.now) (length a.fractions.now))
served c = let a = c.args in ready a.bits a.n a.source.now _ (sym c.in_ok-check_choice.ensures)

pub turn-requires : goal.turn-requires
turn-requires c = let n = c.args.n in
    let r = served (goal.at.turn-requires c).In_ok-check_choice in
    let s = size_of n r.size in
    ((size_small n s).1, (r.room, omega (arith, square n s)))

pub invariant_of-tables : goal.invariant_of-tables
invariant_of-tables c = let w = (served (goal.at.invariant_of-tables c).In_ok-check_choice).long in
    record { long = (w.refs, (w.indices, w.fractions)) }

pub invariant_of-border : goal.invariant_of-border
invariant_of-border c = let w = (served (goal.at.invariant_of-border c).In_ok-check_choice).long in
    record { long = (w.above, w.left) }

pub invariant_of-block : goal.invariant_of-block
invariant_of-block c = let r = served (goal.at.invariant_of-block c).In_ok-check_choice in
    record { size = r.size; depth = r.depth; room = r.room }

pub search_all-requires : goal.search_all-requires
search_all-requires c = let a = c.args in
    let r = served (goal.at.search_all-requires c).In_ok-check_choice in
    (is_turned a.n a.source.now (replicate 1024 0) r.room (omega (arith, square a.n (size_of a.n r.size))) c.turn.ensures, r.long.room)
