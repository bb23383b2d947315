-- The page Zero, proved. Rests on what refs says of available and missing neighbours (Missing), on the law of H.265's neighbours
-- (Locality), on demand 2, by which the doors' blocks are the standard's, and on the clauses reading the corner and entries 0 .. 2n − 1
-- alone.
use Rattle.std.specs.Prelude.{◌≡◌, refl, Bool, false, true, List, ℕ, ◌+◌, ◌*◌, ◌<◌, length, get_or, Ok}
use Rattle.std.proofs.Common.{sym, ◌∙◌, ⊎_elim}
use Rattle.std.proofs.Math.Path.{ap}
use native.Mathlib.Omega.{arith}
use seplogic.Ra.Ura.{Ura}
use base.Logic.{SProp}
use prog.Memory.{Memory}
use prog.Routine.{Routine}
use types.Logic.{Logic}
use contract.Lifetimes.{Lfts}
use contract.Monad.{Fun, fact_mono}
use Rattle.laws.specs.Choose.{passed}
use Rattle.laws.specs.Diff.{order}
use Rattle.h265.specs.Notation.{Neighbours, from_rows}
use Rattle.h265.specs.Setting.{Component, luma_at, first_edition_strong}
use Rattle.h265.specs.Planar.{planar}
use Rattle.h265.specs.Dc.{dc}
use Rattle.h265.specs.Angular.{angular}
use Rattle.h265.specs.Prediction.{pred_samples}
use Rattle.h265.specs.Mean.{Agree}
use Rattle.h265.proofs.Locality.{neighbours_agree}
use Rattle.domain.specs.Domain.{size_ok}
use Rattle.domain.specs.Facts.{size_of, size_small}
use Rattle.domain.specs.declared.rows.Rows.{Rows}
use Rattle.domain.specs.rows.Neighbours.{neighbours_of}
use Rattle.order.specs.Order.{grid_of}
use Rattle.refs.specs.declared.LumaRefGeometry.{LumaRefGeometry}
use Rattle.refs.specs.Answers.{Gathered, gathered}
use Rattle.refs.specs.Door.{luma_rows, luma_no, get_reference_samples}
use Rattle.refs.specs.standard.Missing.{present, before_first, later_gap, none_there, luma_available, luma_past_end}
use Rattle.smooth.specs.Answers.{FilteredRows, Smoothed, rows_given, smoothed_given}
use Rattle.smooth.specs.Smoothing.{filter_no, filter_references, filter_luma_no, filter_luma_refs}
use Rattle.smooth.specs.Standard.{filtered_agrees}
use Rattle.smooth.specs.Steps.{luma_ready}
use Rattle.predict.specs.Lent.{with_scratch}
use Rattle.predict.specs.Contents.{chroma_at}
use Rattle.predict.specs.planar_dc.Flat.{ready}
use Rattle.predict.specs.angular.Door.{fit}
use Rattle.predict.specs.by_mode.Door.{given, side, highest}
use Rattle.predict.specs.modes.Flat.{planar_alone, dc_alone}
use Rattle.predict.specs.modes.Angular.{angular_alone}
use Rattle.predict.specs.modes.Modes.{pred_alone}
use Rattle.predict.specs.refusals.Refusals.{Lengths, predict_no, angular_no}
use Rattle.promises.specs.demand2.Demand2.{LentSlice, LentMutSlice, in_rows, luma_samples, chroma_samples, standard_neighbours, Gathers, Holds}
use Rattle.promises.specs.demand2.Proof2.{entries_in, mut_entries_in, with_lent_tables, angled, moded, no_is, demand_2}
use Rattle.promises.specs.zero.Zero.{AgreeWhereAvailable, SameButEntry2n, Substituted}
use Rattle.promises.specs.zero.Zero.{SameBlocks, SameLumaBlocks, SameWithScratch, Zero}

-- neighbours that agree with the same ones, or with ones that agree
joined : (n : ℕ) (p q r s : Neighbours) → Agree n p q → Agree n q r → Agree n s r → Agree n p s
joined n p q r s a b c =
    record {
      corner = a.corner ∙ b.corner ∙ sym c.corner;
      above = λ i h. a.above i h ∙ b.above i h ∙ sym (c.above i h);
      left = λ i h. a.left i h ∙ b.left i h ∙ sym (c.left i h);
    }

-- (a) and (b): the luma gather
module _ (plane : List ℕ) (geo : LumaRefGeometry) (g : Gathered) (met : g ≡ get_reference_samples plane geo) (zero : g.no ≡ 0) where
  rows_are : g.rows ≡ luma_rows plane geo
  unfolding get_reference_samples
  rows_are = rw met (rw (no_is plane geo g met zero) refl)

module _ (plane other : LentSlice) (geo : LumaRefGeometry) where
  standard_same : AgreeWhereAvailable (2 * geo.n) geo plane other
      → Agree geo.n (standard_neighbours plane.now geo) (standard_neighbours other.now geo)
  standard_same same =
      neighbours_agree (grid_of geo.picture) (luma_at geo.bits) geo.n geo.block_col.0 geo.block_row.0 _ _
      (omega arith) (omega arith) same

  -- past entry 2n
  past : (rows rows₂ : Rows) → rows ≡ luma_rows plane.now geo → rows₂ ≡ luma_rows other.now geo → (i : ℕ) → 2 * geo.n < i
      → (get_or rows.above i 0 ≡ get_or rows₂.above i 0) × (get_or rows.left i 0 ≡ get_or rows₂.left i 0)
  past rows rows₂ e f i l = rw (e, f) (luma_past_end geo plane.now other.now i l)

  all_but : (rows rows₂ : Rows) → Agree geo.n (neighbours_of rows) (neighbours_of rows₂)
      → rows ≡ luma_rows plane.now geo → rows₂ ≡ luma_rows other.now geo → SameButEntry2n geo.n rows rows₂
  all_but rows rows₂ a e f =
      record {
        corner = a.corner;
        above = λ i apart. ⊎_elim (λ l. a.above i l) (λ l. (past rows rows₂ e f i (omega (arith, apart))).0) (order i (2 * geo.n));
        left = λ i apart. ⊎_elim (λ l. a.left i l) (λ l. (past rows rows₂ e f i (omega (arith, apart))).1) (order i (2 * geo.n));
      }

gathered_agree : (κ κ₂ : Lfts 1) (plane other : LentSlice) (geo : LumaRefGeometry) (rows rows₂ : Rows) → Gathers κ plane geo rows
    → Gathers κ₂ other geo rows₂ → AgreeWhereAvailable (2 * geo.n) geo plane other
    → Agree geo.n (neighbours_of rows) (neighbours_of rows₂)
gathered_agree κ κ₂ plane other geo rows rows₂ p q same =
    joined geo.n _ _ _ _ (demand_2.get-reference-samples κ plane geo rows p) (standard_same plane other geo same)
    (demand_2.get-reference-samples κ₂ other geo rows₂ q)

missing : (plane : LentSlice) (geo : LumaRefGeometry) (rows : Rows) → luma_no (length plane.now) geo ≡ 0
    → rows ≡ luma_rows plane.now geo → Substituted plane geo rows
missing plane geo rows served e =
    rw e
    (record {
      available = present plane.now geo served;
      before_first = before_first plane.now geo served;
      later_gap = later_gap plane.now geo served;
      none_available = none_there plane.now geo served;
    })

-- (c): two blocks that hold clauses which are alike
same_at : (n : ℕ) (pred buf : LentMutSlice) (f g : ℕ → ℕ → ℕ) → Holds n f pred.now → Holds n g buf.now
    → ((x y : ℕ) → x < n → y < n → f x y ≡ g x y)
    → (x y : ℕ) → x < n → y < n → get_or pred.now (y * n + x) 0 ≡ get_or buf.now (y * n + x) 0
same_at n pred buf f g p q alike x y hx hy = p x y hx hy ∙ alike x y hx hy ∙ sym (q x y hx hy)

-- the clauses over neighbours that agree, where a call is served
module _ (n : ℕ) (p q : Neighbours) (a : Agree n p q) (x y : ℕ) (hx : x < n) (hy : y < n) where
  angled_alike : (bits mode : ℕ) (edge : Bool) (lent : Lengths) → angular_no bits n mode lent ≡ 0
      → angular bits edge n mode p x y ≡ angular bits edge n mode q x y
  angled_alike bits mode edge lent e =
      let f = fit bits n mode lent e in
      let high = f.high in
      angular_alone n mode f.size (omega arith) bits edge x y hx hy p q a

  moded_alike : (c : Component) (bits mode : ℕ) (lent : Lengths) → predict_no bits n mode lent ≡ 0
      → pred_samples c first_edition_strong n mode p x y ≡ pred_samples c first_edition_strong n mode q x y
  moded_alike c bits mode lent e =
      let b = (given bits n mode lent e).block in
      pred_alone c first_edition_strong n mode x y p q (side b) (highest b) hx hy a

-- the doors that take a corner and two lent rows
module _ (n corner corner₂ : ℕ) (above left above₂ left₂ : LentSlice) where
  abbrev one : Neighbours
  one = in_rows corner above left

  abbrev two : Neighbours
  two = in_rows corner₂ above₂ left₂

  module _ (a : Agree n one two) where
    same_blocks : SameBlocks n corner corner₂ above left above₂ left₂
    same_blocks = record {
      by_planar = λ κs κt pred pred' last last' p buf buf' more more' q.
          same_at n pred' buf' (planar n (in_rows 0 above left)) (planar n (in_rows 0 above₂ left₂))
          (demand_2.predict_planar_into κs above left n pred pred' last last' p)
          (demand_2.predict_planar_into κt above₂ left₂ n buf buf' more more' q)
          (λ x y hx hy.
          planar_alone n x y (ready n (entries_in above) (entries_in left) (mut_entries_in pred) (sym p.0)).0.size hx hy _ _ a.above a.left);
      by_dc = λ κs κt edge pred pred' last last' p buf buf' more more' q.
          same_at n pred' buf' (dc edge n (in_rows 0 above left)) (dc edge n (in_rows 0 above₂ left₂))
          (demand_2.predict_dc_into κs above left n edge pred pred' last last' p)
          (demand_2.predict_dc_into κt above₂ left₂ n edge buf buf' more more' q)
          (λ x y hx hy.
          dc_alone n x y (ready n (entries_in above) (entries_in left) (mut_entries_in pred) (sym p.0)).0.size hx hy _ _ a.above a.left edge);
      by_angular_slices = λ κs κt mode edge bits pred pred' last last' p buf buf' more more' q.
          same_at n pred' buf' (angular bits edge n mode one) (angular bits edge n mode two)
          (demand_2.predict_angular_slices κs corner above left n mode edge bits pred pred' last last' p)
          (demand_2.predict_angular_slices κt corner₂ above₂ left₂ n mode edge bits buf buf' more more' q)
          (λ x y hx hy.
          angled_alike n one two a x y hx hy bits mode edge (with_lent_tables (entries_in above) (entries_in left) (mut_entries_in pred) last) (sym p.0));
      by_angular_fresh = λ κs κt mode edge bits pred pred' last last' p buf buf' more more' q.
          same_at n pred' buf' (angular bits edge n mode one) (angular bits edge n mode two)
          (demand_2.predict_angular_fresh κs corner above left n mode edge bits pred pred' last last' p)
          (demand_2.predict_angular_fresh κt corner₂ above₂ left₂ n mode edge bits buf buf' more more' q)
          (λ x y hx hy.
          angled_alike n one two a x y hx hy bits mode edge (with_scratch (entries_in above) (entries_in left) (mut_entries_in pred)) (sym p.0));
      by_chroma_slices = λ κs κt mode bits pred pred' last last' p buf buf' more more' q.
          same_at n pred' buf' (chroma_samples bits n mode one) (chroma_samples bits n mode two)
          (demand_2.predict_chroma_tb_slices κs mode corner above left n bits pred pred' last last' p)
          (demand_2.predict_chroma_tb_slices κt mode corner₂ above₂ left₂ n bits buf buf' more more' q)
          (λ x y hx hy.
          moded_alike n one two a x y hx hy (chroma_at bits) bits mode (with_lent_tables (entries_in above) (entries_in left) (mut_entries_in pred) last) (sym p.0));
      by_chroma_fresh = λ κs κt mode bits pred pred' last last' p buf buf' more more' q.
          same_at n pred' buf' (chroma_samples bits n mode one) (chroma_samples bits n mode two)
          (demand_2.predict_chroma_tb_fresh κs mode corner above left n bits pred pred' last last' p)
          (demand_2.predict_chroma_tb_fresh κt mode corner₂ above₂ left₂ n bits buf buf' more more' q)
          (λ x y hx hy.
          moded_alike n one two a x y hx hy (chroma_at bits) bits mode (with_scratch (entries_in above) (entries_in left) (mut_entries_in pred)) (sym p.0));
    }

-- those that take gathered rows
same_luma : (n : ℕ) (rows rows₂ : Rows) → Agree n (neighbours_of rows) (neighbours_of rows₂) → SameLumaBlocks n rows rows₂
same_luma n rows rows₂ a = record {
  by_luma_slices = λ κs κt mode bits pred pred' last last' p buf buf' more more' q.
      same_at n pred' buf' (luma_samples bits n mode (neighbours_of rows)) (luma_samples bits n mode (neighbours_of rows₂))
      (demand_2.predict_luma_tb_slices κs mode rows n bits pred pred' last last' p)
      (demand_2.predict_luma_tb_slices κt mode rows₂ n bits buf buf' more more' q)
      (λ x y hx hy. moded_alike n _ _ a x y hx hy (luma_at bits) bits mode (with_lent_tables 65 65 (mut_entries_in pred) last) (sym p.0));
  by_luma_fresh = λ κs κt mode bits pred pred' last last' p buf buf' more more' q.
      same_at n pred' buf' (luma_samples bits n mode (neighbours_of rows)) (luma_samples bits n mode (neighbours_of rows₂))
      (demand_2.predict_luma_tb_fresh κs mode rows n bits pred pred' last last' p)
      (demand_2.predict_luma_tb_fresh κt mode rows₂ n bits buf buf' more more' q)
      (λ x y hx hy. moded_alike n _ _ a x y hx hy (luma_at bits) bits mode (with_scratch 65 65 (mut_entries_in pred)) (sym p.0));
}

-- those with the scratch as a struct
module _ {M : Type 1} {𝓤 : Ura M} (𝓛 : Logic 𝓤) (mem : Memory → SProp 𝓤) (run : Routine → Fun 𝓤) where
  same_held : SameWithScratch 𝓛 mem run
  same_held = record {
    angular_held = λ n corner corner₂ above left above₂ left₂ a κs mode edge bits pred pred' last last'.
        fact_mono 𝓤 _ _
        (λ p x y hx hy.
        let lent = with_scratch (entries_in above) (entries_in left) (mut_entries_in pred) in
        angled (angular bits edge n mode (in_rows corner above left)) n 0 pred pred' refl p.1.0 bits mode lent refl p.0 x y hx hy
        ∙ angled_alike n _ _ a x y hx hy bits mode edge lent (sym p.0));
    chroma_held = λ n corner corner₂ above left above₂ left₂ a κs mode bits pred pred' last last'.
        fact_mono 𝓤 _ _
        (λ p x y hx hy.
        let lent = with_scratch (entries_in above) (entries_in left) (mut_entries_in pred) in
        moded (chroma_samples bits n mode (in_rows corner above left)) n 0 pred pred' refl p.1.0 bits mode lent refl p.0 x y hx hy
        ∙ moded_alike n _ _ a x y hx hy (chroma_at bits) bits mode lent (sym p.0));
    luma_held = λ n rows rows₂ a κs mode bits pred pred' last last'.
        fact_mono 𝓤 _ _
        (λ p x y hx hy.
        let lent = with_scratch 65 65 (mut_entries_in pred) in
        moded (luma_samples bits n mode (neighbours_of rows)) n 0 pred pred' refl p.1.0 bits mode lent refl p.0 x y hx hy
        ∙ moded_alike n _ _ a x y hx hy (luma_at bits) bits mode lent (sym p.0));
  }

-- rows that were smoothed, as they are lent to a predictor
lent_agree : (n c c₂ : ℕ) (a l a₂ l₂ : LentSlice) (above left above₂ left₂ : List ℕ) → a.now ≡ above → l.now ≡ left → a₂.now ≡ above₂
    → l₂.now ≡ left₂ → Agree n (from_rows c above left) (from_rows c₂ above₂ left₂) → Agree n (in_rows c a l) (in_rows c₂ a₂ l₂)
lent_agree n c c₂ a l a₂ l₂ above left above₂ left₂ ea el ea₂ el₂ same = rw (ea, el, ea₂, el₂) same

module _ (n : ℕ) where
  filter_some : (corner : ℕ) (above left : List ℕ) (r : FilteredRows) → r ≡ filter_references corner above left n → r.no ≡ 0 → 0 < n
  unfolding filter_references
  filter_some corner above left r met zero =
      let e : filter_no n (length above) (length left) ≡ 0 = ap (λ (q : FilteredRows). q.no) (sym met) ∙ zero in
      let low = (size_small n (size_of n (passed (size_ok n) _ 2 (omega arith) e).0)).0 in
      omega arith

  smooth_some : (corner : ℕ) (above left : List ℕ) (bits : ℕ) (r : Smoothed) → r ≡ filter_luma_refs true corner above left n bits → r.no ≡ 0
      → 0 < n
  unfolding filter_luma_refs
  smooth_some corner above left bits r met zero =
      let e : filter_luma_no bits n (length above) (length left) ≡ 0 = ap (λ (q : Smoothed). q.no) (sym met) ∙ zero in
      let low = (luma_ready bits n (length above) (length left) e).1.low in
      omega arith

pub zero_settled : Zero
zero_settled = record {
  value_never_tells = λ κ κ₂ plane other geo rows rows₂ p q same.
      rows_are plane.now geo (gathered (Ok rows)) p refl ∙ luma_available geo plane.now other.now same
      ∙ sym (rows_are other.now geo (gathered (Ok rows₂)) q refl);
  all_but_entry_2n = λ κ κ₂ plane other geo rows rows₂ p q same.
      all_but plane other geo rows rows₂ (gathered_agree κ κ₂ plane other geo rows rows₂ p q same)
      (rows_are plane.now geo (gathered (Ok rows)) p refl)
      (rows_are other.now geo (gathered (Ok rows₂)) q refl);
  standard_never_tells = standard_same;
  blocks_never_tell = λ κ κ₂ plane other geo rows rows₂ p q same.
      same_luma geo.n rows rows₂ (gathered_agree κ κ₂ plane other geo rows rows₂ p q same);
  missing_takes = λ κ plane geo rows p.
      missing plane geo rows (no_is plane.now geo (gathered (Ok rows)) p refl) (rows_are plane.now geo (gathered (Ok rows)) p refl);
  past_2n_unread = same_blocks;
  past_2n_unread_luma = same_luma;
  past_2n_unread_held = same_held;
  past_2n_unread_filtered = λ n corner corner₂ above left above₂ left₂ same κs κt r s p q a l a₂ l₂ ea el ea₂ el₂ c.
      let one = demand_2.filter-references κs corner above left n r p 0 in
      let two = demand_2.filter-references κt corner₂ above₂ left₂ n s q 0 in
      let pF = filtered_agrees n _ _ same false 0 (filter_some n corner above.now left.now (rows_given (Ok r)) p refl) in
      let agree =
      lent_agree n c c a l a₂ l₂ r.above r.left s.above s.left ea el ea₂ el₂
      (record {
        corner = refl;
        above = λ i h. (one i h).0 ∙ pF.above i h ∙ sym (two i h).0;
        left = λ i h. (one i h).1 ∙ pF.left i h ∙ sym (two i h).1;
      }) in
      (agree, same_blocks n c c a l a₂ l₂ agree);
  past_2n_unread_smoothed = λ n corner corner₂ above left above₂ left₂ same κs κt bits r s p q a l a₂ l₂ ea el ea₂ el₂.
      let rows_agree =
      joined n _ _ _ _ (demand_2.filter-luma-refs κs corner above left n bits r p)
      (filtered_agrees n _ _ same true bits (smooth_some n corner above.now left.now bits (smoothed_given (Ok r)) p refl))
      (demand_2.filter-luma-refs κt corner₂ above₂ left₂ n bits s q) in (
        rows_agree,
        same_blocks n r.corner s.corner a l a₂ l₂
            (lent_agree n _ _ a l a₂ l₂ r.above r.left s.above s.left ea el ea₂ el₂ rows_agree),
        same_luma n r s rows_agree,
      );
}
