-- Document 01: 'Refusals return zeroed rows, the progress record as given, 0 for any other figure, and leave lent planes, residuals,
-- block buffers and scratch untouched.' One theorem for each door whose contract does not already say so in these words. The
-- predictors' contracts do: `served r .. (now pred.entry)`, which `kept` reads, and that scratch is the same where the number is
-- not 0. For walk, replay and the camera's entries: promises/specs/run_tables/Refused. Assumes nothing.
use Rattle.std.specs.Prelude.{◌≡◌, refl, true, List, [], ◌∷◌, ℕ, ℤ, length, replicate}
use Rattle.std.proofs.Common.{sym, ◌∙◌}
use Rattle.std.proofs.Math.Path.{ap}
use Rattle.std.proofs.Math.Bool.{false}
use Rattle.laws.specs.Choose.{served, unserved}
use Rattle.fmt.specs.declared.LumaRow.{LumaRow}
use Rattle.fmt.specs.declared.LumaCol.{LumaCol}
use Rattle.order.specs.declared.Picture.{Picture}
use Rattle.order.specs.declared.LumaNeighbour.{LumaNeighbour}
use Rattle.order.specs.declared.LumaBlock.{LumaBlock}
use Rattle.order.specs.declared.ChromaBlock.{ChromaBlock}
use Rattle.order.specs.Answers.{Reached}
use Rattle.order.specs.Order.{decode_order, is_available}
use Rattle.order.specs.Reach.{no_reach, luma_reach_no, luma_reach, chroma_reach_no, chroma_reach}
use Rattle.domain.specs.declared.rows.Rows.{Rows}
use Rattle.domain.specs.rows.Neighbours.{zero_rows}
use Rattle.refs.specs.declared.substitution.Flags.{Flags}
use Rattle.refs.specs.declared.LumaRefGeometry.{LumaRefGeometry}
use Rattle.refs.specs.declared.ChromaRefGeometry.{ChromaRefGeometry}
use Rattle.refs.specs.substitution.Door.{substitute_refs}
use Rattle.refs.specs.Door.{get_reference_samples, get_reference_samples_chroma_pair}
use Rattle.camera.specs.gather.Door.{luma_bytes_door}
use Rattle.smooth.specs.Smoothing as smoothing
use Rattle.smooth.specs.Smoothing.{should_filter_refs, filter_references}
use Rattle.residual.specs.Residual.{residual_no, reconstruct_no, residuals_after, reconstructed}
use Rattle.promises.specs.tables.Exact.{number_in}

-- what a call with a number gives, or leaves behind
pub kept : {A : Type 0} (k : ℕ) (work given : A) → ¬ (k ≡ 0) → served k work given ≡ given
kept k work given h = sym (unserved k work given h)

-- order
module _ (p : Picture) (row : LumaRow) (col : LumaCol) where
  pub decode-order : ¬ ((decode_order p row col).no ≡ 0) → (decode_order p row col).value ≡ 0
  unfolding decode_order
  decode-order h = kept _ _ 0 h

  pub is-available : (nb : LumaNeighbour) → ¬ ((is_available p nb row col).no ≡ 0) → (is_available p nb row col).yes ≡ false
  unfolding is_available
  is-available nb h = kept _ _ false h

abbrev NoReach : Reached → Type 0
NoReach r = ¬ (r.no ≡ 0) → r ≡ record { no = r.no; corner = false; above = 0; left = 0 }

no-reach : (k : ℕ) (work : Reached) → work.no ≡ 0 → NoReach (served k work (no_reach k))
no-reach k work z h =
    let e = number_in (λ (r : Reached). r.no) work (no_reach k) z refl in
    kept k work (no_reach k) (λ q. h (e ∙ q)) ∙ ap no_reach (sym e)

pub luma-reach : (b : LumaBlock) → NoReach (luma_reach b)
unfolding luma_reach
luma-reach b = no-reach (luma_reach_no b) _ refl

pub chroma-reach : (b : ChromaBlock) → NoReach (chroma_reach b)
unfolding chroma_reach
chroma-reach b = no-reach (chroma_reach_no b) _ refl

-- refs
pub substitute-refs : (rows : Rows) (flags : Flags) (n bits : ℕ) → ¬ ((substitute_refs rows flags n bits).no ≡ 0)
    → (substitute_refs rows flags n bits).rows ≡ zero_rows
unfolding substitute_refs
substitute-refs rows flags n bits h = kept _ _ zero_rows h

pub luma_gather : (plane : List ℕ) (g : LumaRefGeometry) → ¬ ((get_reference_samples plane g).no ≡ 0) → (get_reference_samples plane g).rows
    ≡ zero_rows
unfolding get_reference_samples
luma_gather plane g h = kept _ _ zero_rows h

pub chroma_gather : (cb cr : List ℕ) (g : ChromaRefGeometry) → ¬ ((get_reference_samples_chroma_pair cb cr g).no ≡ 0)
    → (get_reference_samples_chroma_pair cb cr g).planes ≡ zero_rows ∷ zero_rows ∷ []
unfolding get_reference_samples_chroma_pair
chroma_gather cb cr g h = kept _ _ (zero_rows ∷ zero_rows ∷ []) h

pub luma_gather_bytes : (b : List ℕ) (g : LumaRefGeometry) → ¬ ((luma_bytes_door b g).no ≡ 0) → (luma_bytes_door b g).rows ≡ zero_rows
unfolding luma_bytes_door
luma_gather_bytes b g h = kept _ _ zero_rows h

-- smooth
pub should-filter-refs : (mode n : ℕ) → ¬ ((should_filter_refs mode n).no ≡ 0) → (should_filter_refs mode n).yes ≡ false
unfolding should_filter_refs
should-filter-refs mode n h = kept _ _ false h

module _ (corner : ℕ) (above left : List ℕ) (n : ℕ) where
  pub filter-references : ¬ ((filter_references corner above left n).no ≡ 0)
      → ((filter_references corner above left n).above ≡ replicate 65 0) × ((filter_references corner above left n).left ≡ replicate 65 0)
  unfolding filter_references
  filter-references h =
      let e = kept _ (smoothing.smoothed false 0 n corner above left) zero_rows h in (
        ap (λ (r : Rows). r.above) e,
        ap (λ (r : Rows). r.left) e,
      )

  pub filter-luma-refs : (bits : ℕ) → ¬ ((smoothing.filter_luma_refs true corner above left n bits).no ≡ 0)
      → (smoothing.filter_luma_refs true corner above left n bits).rows ≡ zero_rows
  unfolding smoothing.filter_luma_refs
  filter-luma-refs bits h = kept _ _ zero_rows h

-- residual
pub compute_residual : (n : ℕ) (orig pred : List ℕ) (residual : List ℤ) → ¬ (residual_no n (length orig) (length pred) (length residual) ≡ 0)
    → residuals_after n orig pred residual ≡ residual
unfolding residuals_after
compute_residual n orig pred residual h = kept _ _ residual h

pub reconstruct : (bits n : ℕ) (pred : List ℕ) (residual : List ℤ) (out : List ℕ)
    → ¬ (reconstruct_no bits n (length pred) residual (length out) ≡ 0)
    → reconstructed bits n pred residual out ≡ out
unfolding reconstructed
reconstruct bits n pred residual out h = kept _ _ out h
