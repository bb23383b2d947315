-- Demand 2, proved: of each door, what its contract says where the number is 0. Rests on the bridges of refs, smooth and predict, and on
-- what the camera's bytes spell (Spelt2).
use Rattle.std.specs.Prelude.{◌≡◌, refl, List, ℕ, ◌+◌, ◌*◌, ◌≤◌, ◌<◌, length, get_or, Ok}
use Rattle.std.proofs.Common.{sym, ◌∙◌, arith}
use Rattle.std.proofs.Math.Path.{ap}
use Rattle.std.proofs.Math.Bool.{true, false}
use seplogic.Ra.Ura.{Ura}
use base.Logic.{SProp}
use prog.Memory.{Memory}
use prog.Routine.{Routine}
use types.Logic.{Logic}
use contract.Monad.{Fun, fact_mono}
use Rattle.laws.specs.Choose.{served, worked, passed}
use Rattle.laws.specs.Fill.{block}
use Rattle.laws.specs.FillLaws.{rows_at}
use Rattle.h265.specs.Notation.{Neighbours, from_rows}
use Rattle.h265.specs.Setting.{luma_at, first_edition_strong}
use Rattle.h265.specs.Filtering.{filter_flag, filtered}
use Rattle.h265.specs.Prediction.{predicted}
use Rattle.h265.specs.Mean.{Agree}
use Rattle.domain.specs.Domain.{size_ok}
use Rattle.domain.specs.Facts.{size_of, size_small}
use Rattle.domain.specs.rows.Neighbours.{neighbours_of, zero_rows}
use Rattle.refs.specs.Answers.{Gathered, GatheredPair, gathered, gathered_pair}
use Rattle.refs.specs.declared.LumaRefGeometry.{LumaRefGeometry}
use Rattle.refs.specs.declared.ChromaRefGeometry.{ChromaRefGeometry}
use Rattle.refs.specs.Door.{luma_geometry, luma_no, get_reference_samples, chroma_geometry, chroma_no, get_reference_samples_chroma_pair}
use Rattle.refs.specs.Component.{OwnPlace}
use Rattle.refs.specs.standard.Standard.{luma_standard, chroma_standard}
use Rattle.smooth.specs.Answers.{Rule, FilteredRows, Smoothed, rule_given, rows_given, smoothed_given}
use Rattle.smooth.specs.Smoothing.{filter_no, should_filter_refs, filter_references, filter_luma_refs}
use Rattle.smooth.specs.Forms.{weak_is, never_strong}
use Rattle.smooth.specs.Standard.{is_standard, door_is_standard}
use Rattle.predict.specs.refusals.Refusals.{flat_no, Lengths, lengths, angular_no, predict_no}
use Rattle.predict.specs.Lent.{with_scratch}
use Rattle.predict.specs.planar_dc.Flat.{ready}
use Rattle.predict.specs.angular.Door.{fit}
use Rattle.predict.specs.by_mode.Door.{given, highest}
use Rattle.predict.specs.modes.Modes.{pred_alone}
use Rattle.promises.specs.demand2.Demand2.{LentSlice, LentMutSlice, LentTables, Holds, luma_samples, standard_neighbours, AreChroma, standard_block}
use Rattle.promises.specs.demand2.Demand2.{WithScratch, Demand2}
use Rattle.promises.specs.demand2.Spelt2.{luma_size, luma_refs_spelt, chroma_refs_spelt}
use Rattle.promises.specs.demand2.Spelt2.{planar_spelt, dc_spelt, angular_spelt, chroma_spelt, luma_spelt}

abbrev pub entries_in : LentSlice → ℕ
entries_in s = length s.now

abbrev pub mut_entries_in : LentMutSlice → ℕ
mut_entries_in s = length s.now

-- what a call lends: rows of so many entries, a block of so many, and three tables
abbrev pub with_lent_tables : ℕ → ℕ → ℕ → LentTables → Lengths
with_lent_tables above left pred t = lengths above left pred (mut_entries_in t.0) (mut_entries_in t.1.0) (mut_entries_in t.1.1.0)

-- what a door with this number left of the block that it was lent
abbrev Left : (ℕ → ℕ → ℕ) → ℕ → ℕ → LentMutSlice → LentMutSlice → Type 0
Left clause n number pred pred' = pred'.now ≡ served number (block (λ (y x : ℕ). clause x y) n pred.now) pred.now

-- one with the number 0
module _ (clause : ℕ → ℕ → ℕ) (n number : ℕ) (pred pred' : LentMutSlice) (zero : number ≡ 0) (holds : Left clause n number pred pred') where
  in_its_place : n * n ≤ mut_entries_in pred → Holds n clause pred'.now
  in_its_place room x y hx hy =
      ap (λ (l : List ℕ). get_or l (y * n + x) 0) (holds ∙ sym (worked number (block (λ (y x : ℕ). clause x y) n pred.now) pred.now zero))
      ∙ rows_at (λ (y x : ℕ). clause x y) n n pred.now y x 0 hy hx room

  -- by the kind of its number: planar and DC; angular; a block in any mode
  flat : (above left : ℕ) → number ≡ flat_no n above left (mut_entries_in pred) → Holds n clause pred'.now
  flat above left e = in_its_place (ready n above left (mut_entries_in pred) (sym e ∙ zero)).1

  module _ (bits mode : ℕ) (lent : Lengths) (same : lent.pred ≡ mut_entries_in pred) where
    pub angled : number ≡ angular_no bits n mode lent → Holds n clause pred'.now
    angled e = in_its_place (let h = (fit bits n mode lent (sym e ∙ zero)).room in omega arith)

    pub moded : number ≡ predict_no bits n mode lent → Holds n clause pred'.now
    moded e = in_its_place (let h = (given bits n mode lent (sym e ∙ zero)).room in omega arith)

-- the luma gather
module _ (plane : List ℕ) (geo : LumaRefGeometry) (g : Gathered) (met : g ≡ get_reference_samples plane geo) (served-call : g.no ≡ 0) where
  pub no_is : luma_no (length plane) geo ≡ 0
  unfolding get_reference_samples
  no_is = ap (λ (d : Gathered). d.no) (sym met) ∙ served-call

  luma_agrees : Agree geo.n (neighbours_of g.rows) (standard_neighbours plane geo)
  unfolding get_reference_samples
  luma_agrees = rw met (rw no_is (luma_standard plane geo no_is))

  -- and a luma block over the rows that it gave
  whole : (mode number : ℕ) (pred pred' : LentMutSlice) → number ≡ 0
      → Left (luma_samples geo.bits geo.n mode (neighbours_of g.rows)) geo.n number pred pred'
      → (lent : Lengths) → lent.pred ≡ mut_entries_in pred → number ≡ predict_no geo.bits geo.n mode lent
      → Holds geo.n (standard_block plane geo mode) pred'.now
  unfolding predicted
  whole mode number pred pred' zero holds lent same e x y hx hy =
      moded _ geo.n number pred pred' zero holds geo.bits mode lent same e x y hx hy
      ∙ pred_alone (luma_at geo.bits) first_edition_strong geo.n mode x y _ _ (luma_size _ geo no_is)
      (highest (given geo.bits geo.n mode lent (sym e ∙ zero)).block) hx hy luma_agrees

-- the chroma pair gather
module _ (cb cr : List ℕ) (geo : ChromaRefGeometry) (g : GatheredPair) (met : g ≡ get_reference_samples_chroma_pair cb cr geo)
    (served-call : g.no ≡ 0) (own : OwnPlace geo) where
  pair-no : chroma_no (length cb) (length cr) geo ≡ 0
  unfolding get_reference_samples_chroma_pair
  pair-no = ap (λ (d : GatheredPair). d.no) (sym met) ∙ served-call

  gathered-pair : AreChroma cb geo (neighbours_of (get_or g.planes 0 zero_rows))
      × AreChroma cr geo (neighbours_of (get_or g.planes 1 zero_rows))
  unfolding get_reference_samples_chroma_pair
  gathered-pair = rw met (rw pair-no (chroma_standard _ _ geo pair-no own cb, chroma_standard _ _ geo pair-no own cr))

-- smoothing
ruled : (mode n : ℕ) (r : Rule) → r ≡ should_filter_refs mode n → r.no ≡ 0 → r.yes ≡ filter_flag n mode
unfolding should_filter_refs
ruled mode n r met zero =
    ap (λ (q : Rule). q.yes) met ∙ sym (worked _ (filter_flag n mode) false (ap (λ (q : Rule). q.no) (sym met) ∙ zero))

-- the [1 2 1] form is the same at any depth
any_depth : (bits other n : ℕ) (nb : Neighbours) → filtered false bits n nb ≡ filtered false other n nb
any_depth bits other n nb = weak_is false bits n nb (never_strong bits n nb) ∙ sym (weak_is false other n nb (never_strong other n nb))

module _ (corner : ℕ) (above left : List ℕ) (n : ℕ) where
  weakly : (r : FilteredRows) → r ≡ filter_references corner above left n → r.no ≡ 0 → (bits i : ℕ) → i < 2 * n
      → let pF = filtered false bits n (from_rows corner above left) in
      (get_or r.above i 0 ≡ pF.above i) × (get_or r.left i 0 ≡ pF.left i)
  unfolding filter_references
  weakly r met zero bits i h =
      let no_is : filter_no n (length above) (length left) ≡ 0 = ap (λ (q : FilteredRows). q.no) (sym met) ∙ zero in
      let small = size_small n (size_of n (passed (size_ok n) _ 2 (omega arith) no_is).0) in
      let a = is_standard false 0 n corner above left small.1 in
      rw (met, no_is, any_depth bits 0 n (from_rows corner above left)) (a.above i h, a.left i h)

  either_form : (bits : ℕ) (r : Smoothed) → r ≡ filter_luma_refs true corner above left n bits → r.no ≡ 0
      → Agree n (neighbours_of r.rows) (filtered true bits n (from_rows corner above left))
  unfolding filter_luma_refs
  either_form bits r met zero =
      rw met (door_is_standard true corner above left n bits (ap (λ (q : Smoothed). q.no) (sym met) ∙ zero))

module _ {M : Type 1} {𝓤 : Ura M} (𝓛 : Logic 𝓤) (mem : Memory → SProp 𝓤) (run : Routine → Fun 𝓤) where
  with-scratch : WithScratch 𝓛 mem run
  with-scratch = record {
    predict_angular_into = λ κs corner above left n mode edge bits pred pred' last last'.
        fact_mono 𝓤 _ _
        (λ p. angled _ n 0 pred pred' refl p.1.0 bits mode (with_scratch (entries_in above) (entries_in left) (mut_entries_in pred)) refl p.0);
    predict_chroma_tb_into = λ κs mode corner above left n bits pred pred' last last'.
        fact_mono 𝓤 _ _
        (λ p. moded _ n 0 pred pred' refl p.1.0 bits mode (with_scratch (entries_in above) (entries_in left) (mut_entries_in pred)) refl p.0);
    predict_luma_tb_into = λ κs mode rows n bits pred pred' last last'.
        fact_mono 𝓤 _ _ (λ p. moded _ n 0 pred pred' refl p.1.0 bits mode (with_scratch 65 65 (mut_entries_in pred)) refl p.0);
    gathered_luma_into = λ κ plane geo rows m κs mode pred pred' last last'.
        fact_mono 𝓤 _ _
        (λ p. whole plane.now geo (gathered (Ok rows)) m refl mode 0 pred pred' refl p.1.0
        (with_scratch 65 65 (mut_entries_in pred)) refl p.0);
  }

pub demand_2 : Demand2
demand_2 = record {
  get-reference-samples = λ κ plane geo rows m. luma_agrees plane.now geo (gathered (Ok rows)) m refl;
  get-reference-samples-chroma-pair = λ κs cb cr geo planes m own. gathered-pair cb.now cr.now geo (gathered_pair (Ok planes)) m refl own;
  should-filter-refs = λ mode n yes p. ruled mode n (rule_given (Ok yes)) p refl;
  filter-references = λ κs corner above left n rows p. weakly corner above.now left.now n (rows_given (Ok rows)) p refl;
  filter-luma-refs = λ κs corner above left n bits rows p.
      either_form corner above.now left.now n bits (smoothed_given (Ok rows)) p refl;
  predict_planar_into = λ κs above left n pred pred' last last' p.
      flat _ n 0 pred pred' refl p.1 (entries_in above) (entries_in left) p.0;
  predict_dc_into = λ κs above left n edge pred pred' last last' p.
      flat _ n 0 pred pred' refl p.1 (entries_in above) (entries_in left) p.0;
  predict_angular_slices = λ κs corner above left n mode edge bits pred pred' last last' p.
      angled _ n 0 pred pred' refl p.1.0 bits mode (with_lent_tables (entries_in above) (entries_in left) (mut_entries_in pred) last) refl p.0;
  predict_angular_fresh = λ κs corner above left n mode edge bits pred pred' last last' p.
      angled _ n 0 pred pred' refl p.1 bits mode (with_scratch (entries_in above) (entries_in left) (mut_entries_in pred)) refl p.0;
  predict_chroma_tb_slices = λ κs mode corner above left n bits pred pred' last last' p.
      moded _ n 0 pred pred' refl p.1.0 bits mode (with_lent_tables (entries_in above) (entries_in left) (mut_entries_in pred) last) refl p.0;
  predict_chroma_tb_fresh = λ κs mode corner above left n bits pred pred' last last' p.
      moded _ n 0 pred pred' refl p.1 bits mode (with_scratch (entries_in above) (entries_in left) (mut_entries_in pred)) refl p.0;
  predict_luma_tb_slices = λ κs mode rows n bits pred pred' last last' p.
      moded _ n 0 pred pred' refl p.1.0 bits mode (with_lent_tables 65 65 (mut_entries_in pred) last) refl p.0;
  predict_luma_tb_fresh = λ κs mode rows n bits pred pred' last last' p.
      moded _ n 0 pred pred' refl p.1 bits mode (with_scratch 65 65 (mut_entries_in pred)) refl p.0;
  gathered_luma_slices = λ κ plane geo rows m κs mode pred pred' last last' p.
      whole plane.now geo (gathered (Ok rows)) m refl mode 0 pred pred' refl p.1.0
      (with_lent_tables 65 65 (mut_entries_in pred) last) refl p.0;
  gathered_luma_fresh = λ κ plane geo rows m κs mode pred pred' last last' p.
      whole plane.now geo (gathered (Ok rows)) m refl mode 0 pred pred' refl p.1
      (with_scratch 65 65 (mut_entries_in pred)) refl p.0;
  with-scratch = with-scratch;
  salvrunde_luma_refs = λ κs bits width height ctu unit row col n plane bytes out out' number.
      luma_refs_spelt plane.now (luma_geometry bits width height ctu unit row col n) out.now bytes;
  salvrunde_chroma_refs_ctu = λ κs bits format width height ctu unit row col n curRow curCol cb cr a b own out out' number.
      chroma_refs_spelt cb.now cr.now (chroma_geometry bits format width height ctu unit row col n curRow curCol) out.now a b own;
  salvrunde_planar = λ κs n above left a l out out' number. planar_spelt n above.now left.now out.now a l;
  salvrunde_dc = λ κs n edge above left a l out out' number. dc_spelt n above.now left.now out.now a l edge;
  salvrunde_angular = λ κs bits n mode edge corner above left c a l out out' number.
      angular_spelt n above.now left.now out.now a l bits mode corner c edge;
  salvrunde_chroma_block = λ κs bits n mode corner above left c a l out out' number.
      chroma_spelt n above.now left.now out.now a l bits mode corner c;
  salvrunde_luma_block = λ κs bits n mode corner above left c a l out out' number.
      luma_spelt n above.now left.now out.now a l bits mode corner c;
}
