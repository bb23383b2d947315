-- `records::record_at` meets its contract: the record's six bytes are read. Rests on what bytes spell.
use mathlib.Core.Path.{refl, ap₂}
use Prim.Native.Nat.{ℕ, ◌+◌, ◌*◌, ◌/◌}
use lib.Dec.{ltb}
use lib.ListN.{length, get_or}
use borrow.Author.Tests.{lt-ltb, le-ltb}
use Rattle.laws.specs.Choose.{if_yes, if_no}
use Rattle.plan.specs.records.Records.{record_of, record_at}
use Rattle.plan.proofs.records.record_at.Goals as goal

pub returns-then-i-plan : goal.returns-then-i-plan
unfolding record_at
returns-then-i-plan c = let a = c.args in
    if_no (ltb a.i (length a.plan.now / 6)) (record_of a.plan.now (6 * a.i)) _ _ (le-ltb _ _ c.if-i-plan.true) refl

pub returns : goal.returns
unfolding record_at
returns c = let a = c.args in
    let b = a.plan.now in
    let at = 6 * a.i in
    if_yes (ltb a.i (length b / 6)) (record_of b at) _ _ (lt-ltb _ _ c.if-i-plan.false)
    (ap₂ (λ (r k : ℕ). record { row = r; col = k; side = get_or b (at + 4) 0; mode = get_or b (at + 5) 0 }) c.sample.ensures c.sample-2.ensures)
