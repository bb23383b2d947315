-- What joins the functions that walk a block. Rests on the laws of the rebuilt block and of paint.
use Rattle.std.specs.Prelude.{◌≡◌, ℕ, ◌+◌, ◌-◌, ◌*◌, ◌^◌, ◌≤◌, ◌<◌, length, get_or, ℤ, ◌+ℤ◌, ◌-ℤ◌}
use Rattle.std.proofs.Common.{sym, ◌∙◌, mul-le-mul_right, arith}
use Rattle.std.proofs.Math.Path.{ap, ap₂}
use mathlib.Core.List.{List}
use Rattle.std.proofs.Math.IntN.{pos}
use Rattle.laws.specs.Paint.{paint, paint_in, paint_same}
use Rattle.h265.specs.Notation.{clip_to}
use Rattle.plan.specs.declared.tiling.Block.{Block}
use Rattle.walk.specs.declared.checks.Still.{Still}
use Rattle.walk.specs.checks.Checks.{largest_in}
use Rattle.walk.specs.block_rows.Rows.{less_at, back_at_block, less_rows, back_rows}
use Rattle.walk.specs.block_rows.Laws.{restored_at}
use Rattle.walk.specs.block.Rebuilt.{rebuilt}
use Rattle.walk.specs.block.Ready.{Predicted}
use Rattle.walk.specs.block.Walked.{stored, World, walked}

-- a block of the walk
module _ (s : Still) (b : Block) (at largest base : ℕ) (source work work' pred : List ℕ) (v v' : List ℤ)
    (most : largest ≡ 2 ^ s.bits - 1) (first : base ≡ b.row * s.frame.width + b.col) (holds : Predicted s b work pred)
    (room : at + b.side * b.side ≤ length v)
    (is-resid : v' ≡ less_rows source pred b.side base s.frame.width at v)
    (is-work : work' ≡ back_rows largest source pred b.side base s.frame.width work)
  where
    stored_is : v' ≡ stored s source b at work v
    unfolding stored
    stored_is = is-resid ∙ paint_same _ _ _ _ _ b.side v
        (λ r c l m. ap₂ (λ (i p : ℕ). pos (get_or source i 0) -ℤ pos p) (omega (arith, first)) (holds r c l m))

    read_back : (r c : ℕ) → r < b.side → c < b.side → get_or v' (at + r * b.side + c) (pos 0)
        ≡ less_at source pred (base + r * s.frame.width + c) (r * b.side + c)
    read_back r c l m =
        let k : (r + 1) * b.side ≤ b.side * b.side = mul-le-mul_right b.side (omega arith) in
        ap (λ (x : List ℤ). get_or x (at + r * b.side + c) (pos 0)) is-resid
        ∙ paint_in at b.side b.side _ b.side v r c (pos 0) (omega arith) l m (omega (arith, room, k))

    back_is : work' ≡ rebuilt s b at v' work
    unfolding rebuilt
    back_is =
        is-work
        ∙ ap (λ (u : ℕ). paint u s.frame.width b.side
        (λ (r c : ℕ). back_at_block largest source pred (base + r * s.frame.width + c) (r * b.side + c)) b.side work) first
        ∙ paint_same _ _ _ _ _ b.side work
        (λ r c l m.
        let z = less_at source pred (base + r * s.frame.width + c) (r * b.side + c) in
        restored_at (largest_in s) _ _ z (get_or v' (at + r * b.side + c) (pos 0))
        (ap (λ (k : ℕ). clip_to k (pos (get_or pred (r * b.side + c) 0) +ℤ z)) most) (holds r c l m) (sym (read_back r c l m)))

    pub walked_is : ◌≡◌ {A = World} (record { work = work'; residuals = v' }) (walked s source b at (record { work = work; residuals = v }))
    unfolding walked
    walked_is = ap₂ (λ (x : List ℕ) (y : List ℤ). record { work = x; residuals = y })
        (back_is ∙ ap (λ (y : List ℤ). rebuilt s b at y work) stored_is) stored_is
