-- A luma block that was made of rows in bytes. Rests on the blocks of the other entries, and on what reaches a predicted sample.
use Rattle.std.specs.Prelude.{◌≡◌, refl, List, ℕ, ◌*◌, ◌/◌, ◌≤◌, length, replicate}
use Rattle.std.proofs.Common.{arith, le-leb}
use Rattle.laws.specs.Fill.{block}
use Rattle.laws.specs.FillLaws.{rows_same}
use Rattle.octets.specs.pairs.Into.{read_into}
use Rattle.domain.specs.Facts.{Size, size_small, at_size}
use Rattle.domain.specs.declared.rows.Rows.{Rows}
use Rattle.domain.specs.rows.Neighbours.{neighbours_of}
use Rattle.h265.specs.Setting.{luma_at, first_edition_strong}
use Rattle.h265.specs.Prediction.{pred_samples}
use Rattle.predict.specs.refusals.Refusals.{predict_no}
use Rattle.predict.specs.Lent.{with_scratch}
use Rattle.predict.specs.modes.Modes.{pred_alone}
use Rattle.predict.specs.by_mode.Door.{Predictable, side, highest}
use Rattle.camera.specs.prediction.Entries.{luma_in}
use Rattle.camera.specs.prediction.Blocks.{read_agree}

-- rows by value, of which the 2n samples that a side reads were read
abbrev pub rows_read : ℕ → ℕ → List ℕ → List ℕ → Rows
rows_read n corner above left =
    record { corner = corner; above = read_into n above (replicate 65 0); left = read_into n left (replicate 65 0) }

-- the door serves them
pub luma_serves : {bits n mode p : ℕ} → Predictable bits n mode → n * n ≤ p → predict_no bits n mode (with_scratch 65 65 p) ≡ 0
luma_serves {bits} {n} {mode} {p} b h =
    let m = size_small n (side b) in
    let e = le-leb (2 * n) 65 (omega arith) in
    rw (b.depth, b.size, b.inside, e, le-leb (n * n) p h)

-- a block made of rows that were read is the one of the rows in bytes
pub luma_read : (bits n mode corner : ℕ) (above left p : List ℕ) → Predictable bits n mode → 4 * n ≤ length above → 4 * n ≤ length left
    → (rows : Rows) → rows ≡ rows_read n corner above left
    → block (λ (y x : ℕ). pred_samples (luma_at bits) first_edition_strong n mode (neighbours_of rows) x y) n p
    ≡ block (luma_in bits n mode corner above left) n p
luma_read bits n mode corner above left p b ha hl rows is =
    let m = size_small n (side b) in
    rw is
    (rows_same _ _ n n p
    (λ y x hy hx.
    pred_alone (luma_at bits) first_edition_strong n mode x y _ _ (side b) (highest b) hx hy
    (read_agree 65 n corner above left (omega arith) (side b) ha hl refl refl))
    (omega arith))

-- half of what a block has
pub half_block : (n : ℕ) → Size n → (2 * (n * n / 2) ≡ n * n) × (n * n / 2 ≤ 512)
half_block n s =
    at_size (λ (m : ℕ). (2 * (m * m / 2) ≡ m * m) × (m * m / 2 ≤ 512)) (refl, omega arith) (refl, omega arith) (refl, omega arith)
    (refl, omega arith) n s
