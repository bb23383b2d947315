-- The squares of a block's rows: the loop's sum is the total of the rows passed. Assumes nothing.
use mathlib.Core.Path.{◌∙◌, ap}
use Prim.Native.Nat.{ℕ, ◌+◌, ◌*◌}
use native.Mathlib.Nat.{add_assoc}
use native.Mathlib.Omega.{arith}
use lib.ListN.{get_or}
use Rattle.laws.specs.Sum.{total, total_none, total_more, total_same}
use Rattle.errors.specs.Errors.{square_apart, error_at}
use Rattle.errors.specs.Served.{side_small}
use Rattle.errors.proofs.rows_squares.Goals as goal

pub loop-r-init : goal.loop-r-init
loop-r-init g c = (omega arith, total_none _)

pub loop-r-preserved : goal.loop-r-preserved
loop-r-preserved g c = let t = c.args.t in
    let p = c.requires in
    let l = c.loop-r in
    let a = g.S.Samples.list c.args.a in
    let b = g.S.Samples.list c.args.b in
    let row : ℕ = (t.row + l.r) * c.args.width in
    let same = total_same _ (λ (x : ℕ). error_at a b c.args.width (t.row + l.r) (t.col + x)) c.args.n
    (λ x h. ap (λ (k : ℕ). square_apart (get_or a k 0) (get_or b k 0)) (add_assoc row t.col x)) in (
      omega (arith, c.row_squares-more.ensures.1, l.invariant.0, side_small p.1, p.0),
      total_more _ l.r l.invariant.1 (c.row_squares-more.ensures.0 ∙ same),
    )

pub returns : goal.returns
returns g c = let t = c.args.t in
    let a = g.S.Samples.list c.args.a in
    let b = g.S.Samples.list c.args.b in
    let rows : (ℕ → ℕ → ℕ) = λ n k. total (λ y. total (λ x. error_at a b c.args.width (t.row + y) (t.col + x)) n) k in
    c.loop-r.invariant.1 ∙ ap (rows c.args.n) (omega (arith, c.loop-r-test.false)) ∙ ap (λ (n : ℕ). rows n n) c.requires.0
