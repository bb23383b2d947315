-- What joins the functions that store a block's rows. Assumes nothing.
use Rattle.std.specs.Prelude.{◌≡◌, ℕ, ◌+◌, ◌*◌, ◌≤◌, ◌<◌, ℤ, pos, ◌+ℤ◌}
use Rattle.std.proofs.Common.{ap₂, ◌∙◌, mul-le-mul_right, arith}
use Rattle.laws.specs.FillLaws.{run_none, run_more}
use Rattle.laws.specs.Signed.{held}
use Rattle.h265.specs.Notation.{clip_to}
use Rattle.walk.specs.block_rows.Ready.{RowIn, RowsIn}

-- a sample and a residual as read are those that the definition names
pub restored_at : (largest p q : ℕ) (y z : ℤ) {v : ℕ} → v ≡ clip_to largest (pos p +ℤ y) → p ≡ q → y ≡ z → v ≡ clip_to largest (pos q +ℤ z)
restored_at largest p q y z h a b = h ∙ ap₂ (λ (u : ℕ) (x : ℤ). clip_to largest (pos u +ℤ x)) a b

-- row r of a block
pub row_in : (plane pred residuals n base width at r : ℕ) → RowsIn plane pred residuals n base width at → r < n
    → RowIn plane pred residuals n (base + r * width) (r * n) (at + r * n)
row_in plane pred residuals n base width at r h l =
    let m : (r + 1) * n ≤ n * n = mul-le-mul_right n (omega arith) in
    record { size = h.size; plane_in = h.plane_in r l; pred_in = omega (arith, h.pred_in); resid_in = omega (arith, h.resid_in) }

-- what a loop that stores a row rests on: its start, its turns, and that a residual is read as it was stored
pub ruleset storing = (run_none, run_more, held)
