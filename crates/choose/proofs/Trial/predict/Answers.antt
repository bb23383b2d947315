-- `choose::Trial::predict` meets its contract. The block of each kind of mode, of a door that serves it. Rests on the predictors.
use mathlib.Core.Path.{sym, ◌∙◌}
use mathlib.Core.Bool.{true}
use native.Mathlib.Omega.{arith}
use lib.ListN.{length}
use Rattle.laws.specs.Choose.{worked}
use Rattle.predict.specs.modes.Modes.{planar_made, dc_made, angular_made}
use Rattle.predict.specs.refusals.Refusals.{lengths}
use Rattle.choose.specs.Ready.{Long, flat_serves, angular_serves}
use Rattle.choose.proofs.Trial.predict.Goals as goal
use Rattle.choose.proofs.Trial.predict.Goals.{Start}

long : (c : Start) → let a = c.args in
    let b = a.self.now.border in
    let t = a.tables.now in
    Long a.self.now.block.n (lengths (length b.above.now) (length b.left.now) (length a.pred.now) (length t.refs.now)
    (length t.indices.now) (length t.fractions.now))
long c = let b = c.args.self.now.border.long in
    let t = c.args.tables.now.long in
    record { above = b.0; left = b.1; room = c.requires; refs = t.0; indices = t.1.0; fractions = t.1.1 }

pub returns-in-0 : goal.returns-in-0
returns-in-0 c = let a = c.args in
    let b = a.self.now.border in
    let k = a.self.now.block in
    let p = c.predict_planar_into.ensures in
    p.1 ∙ sym (worked _ _ _ (p.0 ∙ flat_serves k.size (long (goal.at.returns-in-0 c).Start)))
    ∙ planar_made k.bits k.n a.self.now.mode b.corner true true b.above.now b.left.now a.pred.now c.in-0.is

pub returns-in-1 : goal.returns-in-1
returns-in-1 c = let a = c.args in
    let b = a.self.now.border in
    let k = a.self.now.block in
    let p = c.predict_dc_into.ensures in
    p.1 ∙ sym (worked _ _ _ (p.0 ∙ flat_serves k.size (long (goal.at.returns-in-1 c).Start)))
    ∙ dc_made k.bits k.n a.self.now.mode b.corner true true b.above.now b.left.now a.pred.now c.in-1.is

pub returns-in_default : goal.returns-in_default
returns-in_default c = let a = c.args in
    let b = a.self.now.border in
    let k = a.self.now.block in
    let m = c.in_default.in_default-own.rest in
    let p = c.predict_angular_slices.ensures in
    p.1.0
    ∙ sym (worked _ _ _ (p.0 ∙ angular_serves k.size (long (goal.at.returns-in_default c).Start) k.bits a.self.now.mode k.depth
    (omega (arith, m)) a.self.now.known))
    ∙ angular_made k.bits k.n a.self.now.mode b.corner true true b.above.now b.left.now a.pred.now m.0.1 m.1
