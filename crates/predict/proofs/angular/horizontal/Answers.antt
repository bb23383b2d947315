-- `angular::horizontal` meets its contract. By angle, from the references or from the main row itself, by columns. Assumes nothing.
use mathlib.Core.Path.{◌≡◌, sym, ◌∙◌}
use Prim.Native.Nat.{◌≤◌, ◌<◌}
use native.Mathlib.Omega.{arith}
use lib.ListN.{get_or}
use Rattle.predict.specs.angles.Angles.{turns, bends}
use Rattle.domain.specs.Facts.{size_small}
use Rattle.predict.specs.angular.Blocks.{across_refs, across_main, across_whole}
use Rattle.predict.specs.angular.Parts.{from_first, some}
use Rattle.predict.specs.angular.Reach.{within, within_low}
use Rattle.predict.specs.angular.Tables.{turn_low, turn_high}
use borrow.Author.Rules.{rules}
use Rattle.predict.proofs.angular.horizontal.Goals as goal

pub across-requires : goal.across-requires
across-requires c = let p = c.before.before.before.before.before.before.before.before.before.before.before.before.before.requires in
    let l : c.turn-e.result < 32 = rw c.turn-e.ensures (turn_low _ c.if-d-lt8.true) in
    (p.0, (omega arith, let h = (size_small _ p.0).1 in record { angle = omega arith; base = omega arith; near = omega arith; size = h; refs = within_low _ _ _ _ l (search rules); room = search rules }))

pub copies-requires : goal.copies-requires
copies-requires c = let p = c.requires in
    let l : (32 ≤ c.turn-e.result) × (c.turn-e.result ≤ 64) = rw c.turn-e.ensures (turn_high _ c.if-d-lt8.false p.1.0) in
    let z : c.turn-e.result ≡ 64 = c.if-e-eq64.true in
    (p.0, (omega arith, (let h = (size_small _ p.0).1 in record { angle = omega arith; base = omega arith; near = omega arith; size = h; refs = within _ _ _ _ (search rules); room = search rules }, omega arith)))

pub across-requires-else-e-eq64 : goal.across-requires-else-e-eq64
across-requires-else-e-eq64 c = let p = c.requires in
    let l : (32 ≤ c.turn-e.result) × (c.turn-e.result ≤ 64) = rw c.turn-e.ensures (turn_high _ c.if-d-lt8.false p.1.0) in
    let z = c.if-e-eq64.false in
    (p.0, (omega arith, let h = (size_small _ p.0).1 in record { angle = omega arith; base = omega arith; near = omega arith; size = h; refs = within _ _ _ _ (search rules); room = search rules }))

pub returns-then-d-lt8 : goal.returns-then-d-lt8
returns-then-d-lt8 c = let a = c.before.before.before.before.before.before.before.before.before.before.before.before.before.before.before.before.args in
    let p = c.before.before.before.before.before.before.before.before.before.before.before.before.before.before.before.before.requires in
    let q = c.turn-e.ensures in
    rw q at c.across.ensures ∙ across_refs a.corner a.main.now a.side.now (get_or turns a.d 0) (get_or bends a.d 0) a.n p.0 a.pred.now _ a.refs.now (turn_low _ c.if-d-lt8.true) p.1.1.1.1.1 (rw (q, c.bend.ensures) at c.build.ensures)

pub returns-then-e-eq64 : goal.returns-then-e-eq64
returns-then-e-eq64 c = let a = c.args in
    let p = c.requires in
    let q = c.turn-e.ensures in
    rw q at c.copies.ensures ∙ from_first a.main.now 0 (get_or turns a.d 0) a.n a.pred.now (some p.0) ∙ across_whole a.corner a.main.now a.side.now (get_or turns a.d 0) (get_or bends a.d 0) a.n p.0 a.pred.now (sym q ∙ c.if-e-eq64.true)

pub returns-else-e-eq64 : goal.returns-else-e-eq64
returns-else-e-eq64 c = let a = c.args in
    let p = c.requires in
    let q = c.turn-e.ensures in
    rw q at c.across-else-e-eq64.ensures ∙ across_main a.corner a.main.now a.side.now (get_or turns a.d 0) (get_or bends a.d 0) a.n p.0 a.pred.now (turn_high _ c.if-d-lt8.false p.1.0).0
