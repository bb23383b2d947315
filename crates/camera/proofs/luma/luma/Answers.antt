-- `luma::luma` meets its contract: the number, then the work. Rests on `rows_block` and `store_block`.
use mathlib.Core.Path.{◌≡◌, refl, sym}
use mathlib.Core.Bool.{true}
use Prim.Native.Nat.{◌*◌, ◌≤◌}
use native.Mathlib.Omega.{arith}
use lib.ListN.{length}
use Rattle.domain.specs.Domain.{mode_ok}
use Rattle.domain.specs.Facts.{size_small}
use Rattle.predict.specs.refusals.Refusals.{square}
use Rattle.predict.specs.by_mode.Door.{Predictable, side, highest}
use Rattle.camera.specs.Written.{done}
use Rattle.camera.specs.prediction.Entries.{luma_in, luma_block_entry}
use Rattle.camera.specs.prediction.Checks.{HasRoom, mode_fit}
use Rattle.camera.specs.prediction.Blocks.{stored}
use Rattle.camera.specs.prediction.Luma.{half_block}
use Rattle.camera.proofs.luma.luma.Goals as goal
use Rattle.camera.proofs.luma.luma.Goals.{In_ok-check_mode_entry}

served : (c : In_ok-check_mode_entry) → let a = c.args in
    Predictable a.bits a.n a.mode × (HasRoom a.n (length a.above.now) (length a.left.now) (length a.out.now) × (mode_ok a.mode ≡ true))
served c =
    let a = c.args in
    mode_fit 130 _ _ a.mode _ _ _ (mode_ok a.mode) (λ s. omega (arith, size_small a.n s)) (λ t. t) (sym c.in_ok-check_mode_entry.ensures)

pub overflow_cast-mode : goal.overflow_cast-mode
overflow_cast-mode c = omega (arith, highest (served (goal.at.overflow_cast-mode c).In_ok-check_mode_entry).0)

pub rows_block-requires : goal.rows_block-requires
rows_block-requires c = let s = served (goal.at.rows_block-requires c).In_ok-check_mode_entry in
    let room : c.args.n * c.args.n ≤ 1024 = square _ (side s.0) in
    (s.0, (s.1.0.above_long, (s.1.0.left_long, room)))

pub store_block-requires : goal.store_block-requires
store_block-requires c = side (served (goal.at.store_block-requires c).In_ok-check_mode_entry).0

pub returns : goal.returns
unfolding luma_block_entry
returns c = let a = c.args in
    let s = served (goal.at.returns c).In_ok-check_mode_entry in
    let h = half_block a.n (side s.0) in
    done _ _ _ c.in_ok-check_mode_entry.ensures refl
    (stored (luma_in a.bits a.n a.mode a.corner a.above.now a.left.now) a.n _ _ a.out.now h.0 h.1
    (square _ (side s.0)) s.1.0.block_long c.rows_block.ensures c.store_block.ensures)
