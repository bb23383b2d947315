-- `choose::Search::trial` meets its contract. A horizontal mode's sum is that of the vertical one that it mirrors. Rests on `upright`.
use mathlib.Core.Path.{refl, sym, ◌∙◌}
use mathlib.Core.Bool.{true}
use Prim.Native.Nat.{ℕ, ◌≤◌, ◌<◌}
use lib.Dec.{leb, ltb}
use borrow.Author.Tests.{leb-true, ltb-true}
use Rattle.std.proofs.Common.{ap₂}
use Rattle.laws.specs.Choose.{both_true}
use Rattle.domain.specs.Facts.{size_of}
use Rattle.predict.specs.modes.Modes.{predicted_by_mode}
use Rattle.choose.specs.declared.Block.{Block}
use Rattle.choose.specs.Choose.{differences, source_at}
use Rattle.choose.specs.Given.{neighbours}
use Rattle.choose.specs.Sums.{mirrored_sum}
use Rattle.choose.proofs.Search.trial.Goals as goal
use Rattle.choose.proofs.Search.trial.Goals.{Then-mode}

horizontal : (c : Then-mode) → (2 ≤ c.args.mode) × (c.args.mode < 18)
horizontal c =
    let m = c.args.mode in
    let t = both_true (leb 2 m) (ltb m 18) c.if-mode.true in
    (leb-true 2 m t.0, ltb-true m 18 t.1)

pub returns-then-mode : goal.returns-then-mode
returns-then-mode c = let a = c.args in
    let s = a.self.now in
    let k = s.block in
    let h = horizontal (goal.at.returns-then-mode c).Then-mode in
    let nb = neighbours c.upright-upright.result.border in
    let e = c.upright-upright.ensures in
    let held : ℕ → Block → ℕ = λ m b.
    differences (source_at b.n b.samples.now) (predicted_by_mode b.bits true true b.n m nb) b.n b.n in (
      refl,
      mirrored_sum k.bits k.n a.mode nb k.samples.now s.turned.now (size_of k.n k.size) h.0 h.1 s.turns
          ∙ sym (ap₂ held e.0 e.1.0) ∙ e.1.1,
    )
