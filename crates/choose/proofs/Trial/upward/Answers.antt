-- `choose::Trial::upward` meets its contract. The loop's sum is that of the rows from the first one on. Rests on a vertical mode's rows.
use mathlib.Core.Path.{◌≡◌, sym, ap, ◌∙◌}
use mathlib.Core.List.{List}
use lib.ListN.{length}
use Prim.Native.Nat.{ℕ, ◌+◌, ◌-◌, ◌*◌, ◌/◌, ◌≤◌}
use native.Mathlib.Omega.{arith}
use Rattle.laws.specs.Choose.{worked}
use Rattle.laws.specs.Sum.{total}
use Rattle.predict.specs.angular.Parts.{laid_refs, laid_at}
use Rattle.choose.specs.Given.{distance, side, by_eights, refs_serve, rows_serve, as_lent}
use Rattle.choose.specs.Early.{tail, tail_none, tail_done, row_apart, group_step, upward_sum, up_to_same, length_laid}
use Rattle.choose.proofs.Trial.upward.Goals as goal
use Rattle.choose.proofs.Trial.upward.Goals.{After-vertical_refs}

laid : (c : After-vertical_refs) → let a = c.args in let b = a.self.now.border in
    c.vertical_refs.new.refs ≡ laid_refs b.corner b.above.now b.left.now a.self.now.block.n (a.self.now.mode - 18) a.refs.now
laid c = c.vertical_refs.ensures.1 ∙ sym (worked _ _ _ (c.vertical_refs.ensures.0 ∙ refs_serve c.requires))

-- all rows are the mode's block
whole : (c : After-vertical_refs) → let a = c.args in let k = a.self.now.block in
    total (row_apart k.n k.samples.now (laid_at a.self.now.border.above.now c.vertical_refs.new.refs (a.self.now.mode - 18))) k.n
    ≡ distance a.self.now
whole c = let a = c.args in
    let k = a.self.now.block in
    let b = a.self.now.border in
    let u = c.requires in
    ap (λ (r : List ℕ). total (row_apart k.n k.samples.now (laid_at b.above.now r (a.self.now.mode - 18))) k.n) (laid c)
    ∙ upward_sum k.bits k.n a.self.now.mode b.corner b.above.now b.left.now a.refs.now (side u) u.low a.self.now.known u.bent u.refs
    k.samples.now

pub loop-eight-init : goal.loop-eight-init
loop-eight-init c = let n = c.args.self.now.block.n in
    (omega arith, tail_none _ n ∙ ap (tail _ n) (let e : n ≡ 8 * (n / 8) = omega (arith, by_eights c.requires) in e))

pub loop-eight-preserved : goal.loop-eight-preserved
loop-eight-preserved c = let a = c.args in
    let k = a.self.now.block in
    let b = a.self.now.border in
    let l = c.loop-eight in
    let first = 8 * (l.eight - 1) in
    let refs = ap length (laid (goal.at.loop-eight-preserved c).After-vertical_refs)
    ∙ length_laid b.corner b.above.now b.left.now k.n (a.self.now.mode - 18) a.refs.now in
    let now = as_lent c.requires l.auto.pred refs in
    let some : 1 ≤ l.eight = c.loop-eight-test.true in
    let inside : first + 8 ≤ k.n = omega (arith, l.auto.eight) in
    let number = c.vertical_rows.ensures.0 ∙ rows_serve now first (first + 8) (omega arith) inside in
    let made = c.vertical_rows.ensures.1 ∙ sym (worked _ _ _ number) in
    let count : first + 8 - first ≡ 8 = omega arith in
    let back : 8 * l.eight ≡ first + 8 = omega arith in (
      omega (arith, c.eight_sum-sum.ensures.1, l.invariant.0, l.auto.eight),
      group_step k.n first 8 k.samples.now _ _ inside now.room (rw count at made) (l.invariant.1 ∙ ap (tail _ k.n) back)
          c.eight_sum-sum.ensures.0,
    )

pub returns-after-loop-eight : goal.returns-after-loop-eight
returns-after-loop-eight c = let l = c.loop-eight in
    up_to_same _ (whole (goal.at.returns-after-loop-eight c).After-vertical_refs)
    (tail_done _ c.args.self.now.block.n c.args.limit (8 * l.eight) l.sum (omega (arith, l.auto.eight)) l.invariant.1
    (λ h. omega (arith, c.loop-eight-test.false)))

pub returns-then-sum-limit : goal.returns-then-sum-limit
returns-then-sum-limit c = let l = c.loop-eight in
    up_to_same _ (whole (goal.at.returns-then-sum-limit c).After-vertical_refs)
    (tail_done _ c.args.self.now.block.n c.args.limit (8 * l.eight) l.sum (omega (arith, l.auto.eight)) l.invariant.1
    (λ h. absurd (omega (arith, h, c.if-sum-limit.true))))
