-- `next_cell::cells_ahead` meets its contract: each turn adds what one halving leaves before the cell.
use Rattle.std.proofs.Common.{◌≡◌, ◌∙◌, ap, ℕ, ◌+◌, ◌-◌, ◌*◌, ◌/◌, ◌%◌, ◌≤◌, min, arith, rules}
use Rattle.plan.specs.tiling.Check.{ahead_by}
use Rattle.plan.specs.tiling.Ahead.{Counts, count_start, count_more, count_end}
use Rattle.plan.proofs.next_cell.cells_ahead.Goals as goal
use Rattle.plan.proofs.next_cell.cells_ahead.Goals.{After-loop, In-loop}

turn-of : (c : In-loop) → let a = c.args in let l = c.loop in
    Counts a.h a.w (ahead_by a.h a.w a.m 1 a.row a.col) a.row a.col (2 * l.s)
    (l.z + (l.x % 2 * (l.s * min l.s (a.h - l.y * l.s)) + l.y % 2 * (l.s * min (2 * l.s) (a.w - l.x / 2 * (2 * l.s)))))
    (a.m - (l.counter + 1)) (l.y / 2) (l.x / 2) × (l.s ≤ 8)
turn-of c =
    let l = c.loop in
    let one : c.args.m - (l.counter + 1) ≡ c.args.m - l.counter - 1 = omega arith in
    rw one (count_more _ _ _ _ _ _ _ _ _ _ (omega arith) l.invariant)

end_of : (c : After-loop) → let a = c.args in let l = c.loop in
    (l.z + (l.y * l.s * a.w + l.x * (l.s * min l.s (a.h - l.y * l.s))) ≡ ahead_by a.h a.w a.m 1 a.row a.col) × ((l.y * l.s ≤ a.row) × (l.s ≤ 16))
end_of c = count_end _ _ _ _ _ _ _ _ _ _ (omega arith) c.loop.invariant

pub loop-init : goal.loop-init
loop-init c = let none : c.args.m - 0 ≡ c.args.m = omega arith in rw none (count_start _ _ _ _ _ c.requires.2)

pub overflow_sub-w : goal.overflow_sub-w
overflow_sub-w c = let t = turn-of (goal.at.overflow_sub-w c).In-loop in search rules

pub loop-preserved : goal.loop-preserved
loop-preserved c = let l = c.loop in
    let t = turn-of (goal.at.loop-preserved c).In-loop in
    let e = c.bit.ensures.0 ∙ ap (λ (u : ℕ). l.x % 2 * u) c.strip.ensures.0 in
    let f = c.bit-in-loop.ensures.0 ∙ ap (λ (u : ℕ). l.y % 2 * u) c.strip-in-loop.ensures.0 in
    (omega (arith, e, f, t.0.0), t.0.1)

pub overflow_add-result : goal.overflow_add-result
overflow_add-result c = let l = c.loop in
    let t = end_of (goal.at.overflow_add-result c).After-loop in
    record { fits = omega (arith, ap (λ (u : ℕ). l.x * u) c.strip-2.ensures.0, t.0) }

pub overflow_add-result-2 : goal.overflow_add-result-2
overflow_add-result-2 c = let l = c.loop in
    let t = end_of (goal.at.overflow_add-result-2 c).After-loop in
    record { fits = omega (arith, ap (λ (u : ℕ). l.x * u) c.strip-2.ensures.0, t.0) }

pub returns : goal.returns
returns c = let l = c.loop in
    let t = end_of (goal.at.returns c).After-loop in
    omega (arith, ap (λ (u : ℕ). l.x * u) c.strip-2.ensures.0, t.0)
