-- What joins the functions that predict a block. Rests on the bridge and on the laws of the domain.
use Rattle.std.specs.Prelude.{◌≡◌, refl, true, ◌&&◌, List, ℕ, ◌*◌, ◌≤◌, leb, length, Err}
use Rattle.std.proofs.Math.Path.{sym, ap}
use Rattle.std.proofs.Common.{◌∙◌, mul-le-mul, arith, le-leb}
use Rattle.laws.specs.Fill.{block}
use Rattle.laws.specs.FillLaws.{rows_same}
use Rattle.laws.specs.Choose.{served, both_true, worked}
use Rattle.h265.specs.Setting.{luma_at, first_edition_strong}
use Rattle.h265.specs.Prediction.{pred_samples}
use Rattle.domain.specs.Domain.{depth_ok, size_ok}
use Rattle.domain.specs.Facts.{Size, at_size, at_depth, size_small}
use Rattle.domain.specs.declared.rows.Rows.{Rows}
use Rattle.domain.specs.rows.Neighbours.{neighbours_of}
use Rattle.domain.specs.declared.refusal.Refusal.{Refusal}
use Rattle.domain.specs.Refused.{never_0}
use Rattle.refs.specs.Answers.{Gathered, gathered}
use Rattle.refs.specs.Door.{get_reference_samples, luma_rows}
use Rattle.predict.specs.refusals.Refusals.{predict_no}
use Rattle.plan.specs.declared.tiling.Block.{Block}
use Rattle.walk.specs.declared.checks.Still.{Still}
use Rattle.walk.specs.checks.Checks.{Tables}
use Rattle.walk.specs.block.Predicted.{predicted_at}
use Rattle.walk.specs.block.Bridge.{geometry_of, geo_fine, bridge}
use Rattle.walk.specs.block.Ready.{Ready}

-- a block's side
module _ (b : Block) (h : Size b.side) where
  side : (4 ≤ b.side) × (b.side ≤ 32)
  side = size_small b.side h

  pub square : b.side * b.side ≤ 1024
  square = mul-le-mul side.1 side.1

-- a block that is ready is gathered for and predicted: both numbers are 0
module _ (s : Still) (b : Block) (plane : List ℕ) (t : Tables) (h : Ready s b (length plane) t) where
  made : {g : Gathered} → g ≡ get_reference_samples plane (geometry_of s b) → g.rows ≡ luma_rows plane (geometry_of s b)
  unfolding get_reference_samples
  made e = ap (λ (x : Gathered). x.rows) e ∙ sym (worked _ _ _ (geo_fine s b h.picture h.placed h.depth plane h.plane_len))

  pub never_refused : (why : Refusal) → gathered (Err why) ≡ get_reference_samples plane (geometry_of s b) → ⊥
  unfolding get_reference_samples
  never_refused why e =
      never_0 why (ap (λ (x : Gathered). x.no) e ∙ geo_fine s b h.picture h.placed h.depth plane h.plane_len)

  predicts : (pred : ℕ) → b.side * b.side ≤ pred
      → predict_no s.bits b.side b.mode (record
      { above = 65; left = 65; pred = pred; refs = t.refs; indices = t.indices; fractions = t.fractions }) ≡ 0
  predicts pred room =
      let x = both_true (leb 193 t.refs && leb 32 t.indices) (leb 32 t.fractions) h.tables in
      let y = both_true (leb 193 t.refs) (leb 32 t.indices) x.0 in
      simp (
        at_depth (λ (k : ℕ). depth_ok k ≡ true) refl refl refl s.bits h.depth,
        at_size (λ (k : ℕ). size_ok k ≡ true) refl refl refl refl b.side h.placed.size,
        le-leb b.mode 34 h.mode,
        le-leb (2 * b.side) 65 (omega (arith, side b h.placed.size)),
        le-leb (b.side * b.side) pred room,
        y.0,
        y.1,
        x.1,
      )

  -- what the prediction from the gathered rows leaves is H.265's
  pub predicted_is : (g : Gathered) (d out : List ℕ) (k : ℕ) → b.side * b.side ≤ length d → g ≡ get_reference_samples plane (geometry_of s b)
      → k ≡ predict_no s.bits b.side b.mode (record
      { above = 65; left = 65; pred = length d; refs = t.refs; indices = t.indices; fractions = t.fractions })
      → out ≡ served k (block (λ (y x : ℕ). pred_samples (luma_at s.bits) first_edition_strong b.side b.mode (neighbours_of g.rows)
      x y) b.side d) d
      → out ≡ block (predicted_at s b plane) b.side d
  predicted_is g d out k room e p o =
      o
      ∙ sym (worked k _ _ (p ∙ predicts (length d) room))
      ∙ rows_same _ _ b.side b.side d
      (λ y x l m.
      ap (λ (q : Rows). pred_samples (luma_at s.bits) first_edition_strong b.side b.mode (neighbours_of q) x y) (made e)
      ∙ sym (bridge s b h.picture h.placed h.depth plane h.plane_len h.mode y x l m))
      (omega (arith, side b h.placed.size))
