-- `angular::lines` meets its contract. By angle, from the references or from the main row itself. Assumes nothing.
use mathlib.Core.Path.{◌∙◌}
use Prim.Native.Nat.{◌≤◌, ◌<◌}
use native.Mathlib.Omega.{arith}
use Rattle.domain.specs.Facts.{size_small}
use Rattle.predict.specs.angular.Reach.{within, within_low}
use Rattle.predict.specs.angular.Tables.{turn_low, turn_high}
use Rattle.predict.specs.angular.Parts.{rows_low, rows_high}
use borrow.Author.Rules.{rules}
use Rattle.predict.proofs.angular.lines.Goals as goal

pub copies-requires : goal.copies-requires
copies-requires c = let p = c.requires in
    let l : c.turn-e.result < 32 = rw c.turn-e.ensures (turn_low _ c.if-d-lt8.true) in
    let z = c.if-e-eq0.true in
    (p.0, (omega arith, (let h = (size_small _ p.0).1 in record { angle = omega arith; base = omega arith; near = omega arith; size = h; refs = within_low _ _ _ _ l (search rules); room = search rules }, p.1.1.1.1.1)))

pub down-requires : goal.down-requires
down-requires c = let p = c.requires in
    let l : c.turn-e.result < 32 = rw c.turn-e.ensures (turn_low _ c.if-d-lt8.true) in
    let z = c.if-e-eq0.false in
    (p.0, (omega arith, (let h = (size_small _ p.0).1 in record { angle = omega arith; base = omega arith; near = omega arith; size = h; refs = within_low _ _ _ _ l (search rules); room = search rules }, p.1.1.1.1.1)))

pub copies-requires-then-e-eq64 : goal.copies-requires-then-e-eq64
copies-requires-then-e-eq64 c = let p = c.requires in
    let l : (32 ≤ c.turn-e.result) × (c.turn-e.result ≤ 64) = rw c.turn-e.ensures (turn_high _ c.if-d-lt8.false p.1.0) in
    let z = c.if-e-eq64.true in
    (p.0, (omega arith, (let h = (size_small _ p.0).1 in record { angle = omega arith; base = omega arith; near = omega arith; size = h; refs = within _ _ _ _ (search rules); room = search rules }, p.1.1.1.1.1)))

pub down-requires-else-e-eq64 : goal.down-requires-else-e-eq64
down-requires-else-e-eq64 c = let p = c.requires in
    let l : (32 ≤ c.turn-e.result) × (c.turn-e.result ≤ 64) = rw c.turn-e.ensures (turn_high _ c.if-d-lt8.false p.1.0) in
    let z = c.if-e-eq64.false in
    (p.0, (omega arith, (let h = (size_small _ p.0).1 in record { angle = omega arith; base = omega arith; near = omega arith; size = h; refs = within _ _ _ _ (search rules); room = search rules }, p.1.1.1.1.1)))

pub returns-then-e-eq0 : goal.returns-then-e-eq0
returns-then-e-eq0 c = let a = c.args in
    let h = (size_small _ c.requires.0).0 in
    rw c.turn-e.ensures at c.copies.ensures ∙ rows_low a.main.now a.refs.now a.n a.d a.first a.count a.pred.now (omega arith) c.if-d-lt8.true

pub returns-else-e-eq0 : goal.returns-else-e-eq0
returns-else-e-eq0 c = let a = c.args in
    let h = (size_small _ c.requires.0).0 in
    rw c.turn-e.ensures at c.down.ensures ∙ rows_low a.main.now a.refs.now a.n a.d a.first a.count a.pred.now (omega arith) c.if-d-lt8.true

pub returns-then-e-eq64 : goal.returns-then-e-eq64
returns-then-e-eq64 c = let a = c.args in
    let h = (size_small _ c.requires.0).0 in
    rw c.turn-e.ensures at c.copies-then-e-eq64.ensures ∙ rows_high a.main.now a.refs.now a.n a.d a.first a.count a.pred.now (omega arith) c.if-d-lt8.false

pub returns-else-e-eq64 : goal.returns-else-e-eq64
returns-else-e-eq64 c = let a = c.args in
    let h = (size_small _ c.requires.0).0 in
    rw c.turn-e.ensures at c.down-else-e-eq64.ensures ∙ rows_high a.main.now a.refs.now a.n a.d a.first a.count a.pred.now (omega arith) c.if-d-lt8.false
