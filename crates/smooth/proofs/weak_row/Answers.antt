-- `smooth::weak_row` meets its contract. The loop's invariant: the entries passed are the [1 2 1] form's. The first entry stands before the loop, entries 2n - 1 and 2n after it.
-- Assumes nothing.
use mathlib.Core.Path.{◌≡◌, ap, ◌∙◌}
use Prim.Native.Nat.{ℕ, ◌+◌, ◌*◌, ◌-◌}
use native.Mathlib.Omega.{arith}
use borrow.Author.Rules.{rules}
use lib.ListN.{replicate}
use Rattle.laws.specs.Fill.{fill}
use Rattle.laws.specs.FillLaws.{fill_none, fill_more, fill_done}
use Rattle.smooth.specs.Smoothing.{row_of}
use Rattle.smooth.specs.Steps.{weak_entry, weak_first, weak_mid, weak_end}
use Rattle.smooth.proofs.weak_row.Goals as goal

pub loop-x-init : goal.loop-x-init
loop-x-init c = let a = c.args in
    (search rules, (search rules, (search rules, fill_more _ _ (fill_none _ _) (c.tap.ensures ∙ weak_first a.n a.corner a.row.now (search rules)))))

pub loop-x-preserved : goal.loop-x-preserved
loop-x-preserved c = let a = c.args in
    let l = c.loop-x in
    (search rules, (search rules, (search rules, fill_more _ _ l.invariant.1.1.1 (c.tap-in-loop-x.ensures ∙ weak_mid a.n a.corner a.row.now l.x (search rules) (search rules)))))

pub returns : goal.returns
unfolding row_of
returns c = let a = c.args in
    let i = c.loop-x.invariant in
    let F : ℕ → ℕ = weak_entry a.n a.corner a.row.now in
    let d = fill_done F _ i.1.0 c.loop-x-test.false i.1.1.1 in
    let e : 2 * a.n - 1 + 1 ≡ 2 * a.n = omega arith in
    let k = fill_more F _ d (weak_end a.n a.corner a.row.now (2 * a.n - 1) (omega arith)) ∙ ap (λ (m : ℕ). fill F m (replicate 65 0)) e in
    fill_more F _ k (weak_end a.n a.corner a.row.now (2 * a.n) (omega arith))
