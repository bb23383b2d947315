-- `smooth::strong_row` meets its contract. The loop's invariant: the entries passed are the strong form's. Entries 63 and 64 stand after it.
-- Assumes nothing.
use mathlib.Core.Path.{◌∙◌}
use Prim.Native.Nat.{ℕ}
use borrow.Author.Rules.{rules}
use Rattle.laws.specs.FillLaws.{fill_none, fill_more, fill_done}
use Rattle.smooth.specs.Smoothing.{row_of}
use Rattle.smooth.specs.Steps.{strong_entry, strong_mid, strong_last, strong_kept}
use Rattle.smooth.proofs.strong_row.Goals as goal

pub loop-x-init : goal.loop-x-init
loop-x-init c = (search rules, (search rules, fill_none _ _))

pub loop-x-preserved : goal.loop-x-preserved
loop-x-preserved c = let a = c.args in
    (search rules, (search rules, fill_more _ _ c.loop-x.invariant.1.1 (c.ramp.ensures ∙ strong_mid 32 a.corner a.row.now c.loop-x.x (search rules))))

pub returns : goal.returns
unfolding row_of
returns c = let a = c.args in
    let i = c.loop-x.invariant in
    let F : ℕ → ℕ = strong_entry a.corner a.row.now in
    let d = fill_done F _ i.0 c.loop-x-test.false i.1.1 in
    fill_more F _ (fill_more F _ d (strong_last 32 a.corner a.row.now)) (strong_kept 32 a.corner a.row.now)
