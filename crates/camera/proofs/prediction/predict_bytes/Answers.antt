-- `prediction::predict_bytes` meets its contract: an arm for each side. Rests on `rows_block` and on pairs::store.
use mathlib.Core.Path.{◌≡◌, subst}
use Prim.Native.Nat.{ℕ, ◌*◌, ◌≤◌}
use native.Mathlib.Omega.{arith}
use lib.ListN.{length}
use Rattle.domain.specs.Facts.{size_of, last_size}
use Rattle.predict.specs.modes.Modes.{predicted_by_mode}
use Rattle.camera.specs.prediction.Entries.{neighbours_in}
use Rattle.camera.specs.prediction.Blocks.{stored}
use borrow.Author.Rules.{rules}
use Rattle.camera.proofs.prediction.predict_bytes.Goals as goal
use Rattle.camera.proofs.prediction.predict_bytes.Goals.{In_default}

key : (c : In_default) → c.args.n ≡ 32
key c = let r = c.in_default.in_default-own.rest in last_size _ (size_of _ c.requires.0.size) r.0.0.1 r.0.1 r.1

pub returns-in-4 : goal.returns-in-4
returns-in-4 c = let a = c.args in
    rw c.in-4.is
    (stored (λ (y x : ℕ). predicted_by_mode a.bits a.edge a.edge 4 a.mode (neighbours_in a.corner a.above.now a.left.now) x y) 4 8 _ a.out.now (omega arith) (omega arith)
    (search rules) (subst (λ (m : ℕ). 2 * (m * m) ≤ length a.out.now) c.in-4.is c.requires.1.block_long) c.rows_block.ensures c.store.ensures)

pub returns-in-8 : goal.returns-in-8
returns-in-8 c = let a = c.args in
    rw c.in-8.is
    (stored (λ (y x : ℕ). predicted_by_mode a.bits a.edge a.edge 8 a.mode (neighbours_in a.corner a.above.now a.left.now) x y) 8 32 _ a.out.now (omega arith) (omega arith)
    (search rules) (subst (λ (m : ℕ). 2 * (m * m) ≤ length a.out.now) c.in-8.is c.requires.1.block_long) c.rows_block-in-8.ensures c.store-in-8.ensures)

pub returns-in-16 : goal.returns-in-16
returns-in-16 c = let a = c.args in
    rw c.in-16.is
    (stored (λ (y x : ℕ). predicted_by_mode a.bits a.edge a.edge 16 a.mode (neighbours_in a.corner a.above.now a.left.now) x y) 16 128 _ a.out.now (omega arith) (omega arith)
    (search rules) (subst (λ (m : ℕ). 2 * (m * m) ≤ length a.out.now) c.in-16.is c.requires.1.block_long) c.rows_block-in-16.ensures c.store-in-16.ensures)

pub returns-in_default : goal.returns-in_default
returns-in_default c = let a = c.args in
    rw (key (goal.at.returns-in_default c).In_default)
    (stored (λ (y x : ℕ). predicted_by_mode a.bits a.edge a.edge 32 a.mode (neighbours_in a.corner a.above.now a.left.now) x y) 32 512 _ a.out.now (omega arith) (omega arith)
    (search rules) (subst (λ (m : ℕ). 2 * (m * m) ≤ length a.out.now) (key (goal.at.returns-in_default c).In_default) c.requires.1.block_long) c.rows_block-in_default.ensures c.store-in_default.ensures)
