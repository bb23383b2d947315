-- What joins the functions that rebuild a block. Rests on the laws of the block and of paint.
use Rattle.std.specs.Prelude.{◌≡◌, refl, List, ℕ, ◌+◌, ◌-◌, ◌*◌, ◌^◌, ◌≤◌, ◌<◌, length, get_or, ℤ, pos, ◌+ℤ◌}
use Rattle.std.proofs.Common.{ap, ◌∙◌, mul-le-mul_right, arith}
use Rattle.laws.specs.Fill.{block}
use Rattle.laws.specs.FillLaws.{rows_at}
use Rattle.laws.specs.Paint.{paint, paint_same, length_paint}
use Rattle.h265.specs.Notation.{clip_to}
use Rattle.domain.specs.Facts.{size_small}
use Rattle.plan.specs.declared.tiling.Block.{Block}
use Rattle.walk.specs.declared.checks.Still.{Still}
use Rattle.walk.specs.checks.Checks.{largest_in, Tables}
use Rattle.walk.specs.block.Predicted.{predicted_at}
use Rattle.walk.specs.block.Ready.{Ready, Lies, Predicted}
use Rattle.walk.specs.block.PredictedLaws.{square}
use Rattle.walk.specs.block_rows.Ready.{RowsIn}
use Rattle.walk.specs.block_rows.Laws.{restored_at}
use Rattle.walk.specs.block.Rebuilt.{rebuilt}

-- the rows of a block that is ready
module _ (s : Still) (b : Block) (plane : ℕ) (t : Tables) (h : Ready s b plane t) where
  last_row : (r : ℕ) → r < b.side → b.row * s.frame.width + b.col + r * s.frame.width + b.side ≤ plane
  last_row r l =
      let m : (b.row + r + 1) * s.frame.width ≤ s.frame.height * s.frame.width = mul-le-mul_right s.frame.width
      (omega (arith, h.placed.row_in)) in
      omega (arith, h.placed.col_in, h.plane_len)

  pub rows_in : (pred residuals at base : ℕ) → 1024 ≤ pred → Lies b residuals at → base ≡ b.row * s.frame.width + b.col
      → RowsIn plane pred residuals b.side base s.frame.width at
  rows_in pred residuals at base long l q =
      rw q (record {
        size = (size_small b.side h.placed.size).1;
        plane_in = last_row;
        pred_in = omega
            (arith, square b h.placed.size, long);
        resid_in = l.resid_in;
      })

-- a buffer that a block was predicted into holds the prediction
pub holds_it : (s : Still) (b : Block) (plane d out : List ℕ) → b.side * b.side ≤ length d → out
    ≡ block (predicted_at s b plane) b.side d → Predicted s b plane out
holds_it s b plane d out room o r c l m = ap (λ (u : List ℕ). get_or u (r * b.side + c) 0) o ∙ rows_at _ b.side b.side d r c 0 l m room

-- the rows of a block, stored from its first sample on
pub rebuilt_is : (s : Still) (b : Block) (at largest base : ℕ) (pred plane out : List ℕ) (v : List ℤ) → largest ≡ 2 ^ s.bits - 1
    → base ≡ b.row * s.frame.width + b.col
    → Predicted s b plane pred
    → out ≡ paint base s.frame.width b.side (λ (r c : ℕ). clip_to largest
    (pos (get_or pred (r * b.side + c) 0) +ℤ get_or v (at + r * b.side + c) (pos 0))) b.side plane
    → out ≡ rebuilt s b at v plane
unfolding rebuilt
rebuilt_is s b at largest base pred plane out v e q p o =
    o
    ∙ ap (λ (u : ℕ). paint u s.frame.width b.side
    (λ (r c : ℕ). clip_to largest (pos (get_or pred (r * b.side + c) 0) +ℤ get_or v (at + r * b.side + c) (pos 0))) b.side plane) q
    ∙ paint_same _ _ _ _ _ b.side plane
    (λ r c l m.
    let z = get_or v (at + r * b.side + c) (pos 0) in
    restored_at (largest_in s) _ _ z z (ap (λ (k : ℕ). clip_to k (pos (get_or pred (r * b.side + c) 0) +ℤ z)) e) (p r c l m) refl)

pub rebuilt_length : (s : Still) (b : Block) (at : ℕ) (v : List ℤ) (plane : List ℕ) → length (rebuilt s b at v plane) ≡ length plane
unfolding rebuilt
rebuilt_length s b at v plane = length_paint _ _ _ _ b.side plane
