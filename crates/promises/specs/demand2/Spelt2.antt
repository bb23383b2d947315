-- What the bytes that the camera's entries leave spell: the standard's samples, where what is lent as bytes is bytes. Rests on what the
-- entries write and on the clauses staying in range.
use Rattle.std.specs.Prelude.{◌≡◌, Bool, ℕ, suc, ◌+◌, ◌-◌, ◌*◌, ◌/◌, ◌%◌, ◌^◌, ◌≤◌, ◌<◌, leb, ltb, eqb, ℤ, replicate}
use Rattle.std.proofs.Math.Path.{refl, ap, ap₂}
use Rattle.std.proofs.Common.{sym, ◌∙◌, div-one, get_or-append-add, lt-ltb, le-ltb}
use Rattle.std.proofs.Math.Bool.{true, false, cond, not}
use mathlib.Core.List.{List}
use native.Mathlib.Omega.{arith}
use Rattle.std.proofs.Math.Arith.{digits_lt, digits_div, digits_mod}
use Rattle.std.proofs.Math.ListN.{length, get_or, length-replicate, get_or-append}
use Rattle.laws.specs.Choose.{worked, passed, both_true}
use Rattle.laws.specs.Fill.{fill, run}
use Rattle.laws.specs.FillLaws.{length_fill, fill_none, fill_at, fill_same, fill_run}
use Rattle.laws.specs.Bytes.{byte_of}
use Rattle.octets.specs.Bytes.{samples_of}
use Rattle.octets.specs.Laws.{AreBytes, samples_below, sample-at, two_bytes}
use Rattle.h265.specs.Notation.{Neighbours}
use Rattle.h265.specs.Setting.{luma_at}
use Rattle.h265.specs.Substitution.{first_marked, settled}
use Rattle.h265.specs.Planar.{planar}
use Rattle.h265.specs.Dc.{dc}
use Rattle.h265.specs.Angular.{angular}
use Rattle.h265.specs.Mean.{Agree}
use Rattle.domain.specs.Domain.{depth_ok, size_ok, mode_ok}
use Rattle.domain.specs.Facts.{Depth, Size, depth_of, at_depth, size_of, size_small}
use Rattle.domain.specs.declared.rows.Rows.{Rows}
use Rattle.domain.specs.rows.Neighbours.{neighbours_of, level_rows}
use Rattle.order.specs.Order.{grid_of}
use Rattle.order.specs.Reach.{chroma_width}
use Rattle.order.specs.Blocks.{chroma_fine}
use Rattle.refs.specs.declared.LumaRefGeometry.{LumaRefGeometry}
use Rattle.refs.specs.declared.ChromaRefGeometry.{ChromaRefGeometry}
use Rattle.refs.specs.declared.substitution.Flags.{Flags}
use Rattle.refs.specs.substitution.Substitution.{flags_on, samples_on, substituted}
use Rattle.refs.specs.substitution.Substitution as substitution
use Rattle.refs.specs.Gather.{gathered_by}
use Rattle.refs.specs.Door.{luma_no, luma_rows, format_of, chroma_picture, chroma_block, chroma_rows}
use Rattle.refs.specs.Component.{component_of, OwnPlace}
use Rattle.refs.specs.Served.{chroma_passed}
use Rattle.refs.specs.standard.Standard.{luma_standard, chroma_standard}
use Rattle.predict.specs.by_mode.Door.{side, highest}
use Rattle.predict.specs.modes.Flat.{planar_between, dc_between}
use Rattle.predict.specs.modes.Modes.{pred_between}
use Rattle.predict.specs.Contents.{chroma_at, chroma_plain}
use Rattle.camera.specs.Written.{Written, wrote, entry}
use Rattle.camera.specs.gather.Line.{in_line, rows_at}
use Rattle.camera.specs.gather.Entry.{luma_entry_no, luma_entry, chroma_entry_no, chroma_entry}
use Rattle.camera.specs.gather.Room.{luma-entry-no, luma_entry_fine, chroma-entry-no, chroma_entry_fine}
use Rattle.camera.specs.gather.Spelt.{luma_spelt_fine, chroma_spelt_fine}
use Rattle.camera.specs.prediction.Entries.{neighbours_in, block_in_bytes, planar_entry, dc_entry, angular_mode, angular_entry, chroma_block_entry}
use Rattle.camera.specs.prediction.Entries.{luma_block_entry}
use Rattle.camera.specs.prediction.Checks.{flat_fit, mode_fit}
use Rattle.promises.specs.demand3.Range.{Most, neighbours_most, under, over, angular_most, luma_most}
use Rattle.promises.specs.demand2.Demand2.{Holds, from_one_line, plane_sample, standard_neighbours, standard_chroma, AreChroma}
use Rattle.promises.specs.demand2.Demand2.{luma_samples, chroma_samples}

-- an entry that gives 0 has done its work
done : (k : ℕ) (work kept : List ℕ) {number : ℕ} {out : List ℕ} → wrote number out ≡ entry k work kept → number ≡ 0 → (k ≡ 0) × (out ≡ work)
unfolding entry
done k work kept e zero =
    let q : k ≡ 0 = ap (λ (w : Written). w.number) (sym e) ∙ zero in
    (q, ap (λ (w : Written). w.bytes) e ∙ sym (worked k work kept q))

-- sample j of k that were stored, the lower byte first
module _ (f : ℕ → ℕ) (k : ℕ) (d : List ℕ) (room : 2 * k ≤ length d) (j : ℕ) (h : j < k) where
  byte_is : (at i : ℕ) → at < 2 * k → at / 2 ≡ j → at % 2 ≡ i → get_or (fill (byte_of 2 f) (2 * k) d) at 0 ≡ f j / 256 ^ i % 256
  byte_is at i l p q = fill_at (byte_of 2 f) (2 * k) d at 0 l (omega arith) ∙ ap₂ (λ (u v : ℕ). f u / 256 ^ v % 256) p q

  stored_at : f j ≤ 65535 → get_or (samples_of (fill (byte_of 2 f) (2 * k) d)) j 0 ≡ f j
  stored_at small =
      sample-at (fill (byte_of 2 f) (2 * k) d) j (2 * j) refl (omega (arith, length_fill (byte_of 2 f) (2 * k) d))
      ∙ sym
      (two_bytes (f j) _ _ (omega arith)
      (byte_is (2 * j) 0 (omega arith) (omega arith) (omega arith) ∙ ap (λ (v : ℕ). v % 256) (div-one (f j)))
      (byte_is (2 * j + 1) 1 (omega arith) (omega arith) (omega arith)))

-- a clause that gives samples of samples
abbrev Plain : ℕ → (Neighbours → ℕ → ℕ → ℕ) → Type 0
Plain n clause = (x y : ℕ) → x < n → y < n → (nb : Neighbours) → Most 65535 nb → clause nb x y ≤ 65535

-- the block that an entry writes
module _ (n corner : ℕ) (above left : List ℕ) (sample : corner < 65536) (a : AreBytes above) (l : AreBytes left) where
  in_range : Most 65535 (neighbours_in corner above left)
  in_range = record {
    corner = omega arith;
    above = λ i. let h = samples_below above a i in omega arith;
    left = λ i. let h = samples_below left l i in omega arith;
  }

  module _ (clause : Neighbours → ℕ → ℕ → ℕ) (c : Plain n clause) (d : List ℕ) (room : 2 * (n * n) ≤ length d) where
    abbrev in_row : ℕ → ℕ → ℕ
    in_row y x = clause (neighbours_in corner above left) x y

    block_spelt : {out : List ℕ} → out ≡ block_in_bytes in_row n d → Holds n (clause (neighbours_in corner above left)) (samples_of out)
    unfolding block_in_bytes
    block_spelt wrote x y hx hy =
        let j = y * n + x in
        let at = ap₂ in_row (digits_div y hx) (digits_mod y hx) in
        ap (λ (b : List ℕ). get_or (samples_of b) j 0) wrote
        ∙ stored_at (λ i. in_row (i / n) (i % n)) (n * n) d room j (digits_lt hy hx) (rw at (c x y hx hy _ in_range))
        ∙ at

depth_small : (bits : ℕ) → Depth bits → 2 ^ bits - 1 ≤ 65535
depth_small bits depth = at_depth (λ (k : ℕ). 2 ^ k - 1 ≤ 65535) (omega arith) (omega arith) (omega arith) bits depth

-- the clauses, each of which is such
module _ (n : ℕ) (size : Size n) where
  planar_plain : Plain n (planar n)
  planar_plain x y hx hy nb m = (planar_between n x y size hx hy 0 65535 nb (over 65535 n nb) (under 65535 nb m n)).1

  dc_plain : (edge : Bool) → Plain n (dc edge n)
  dc_plain edge x y hx hy nb m = (dc_between n x y size hx hy 0 65535 nb (over 65535 n nb) (under 65535 nb m n) edge).1

  angular_plain : (bits : ℕ) (edge : Bool) (mode : ℕ) → Depth bits → mode ≤ 34 → Plain n (angular bits edge n mode)
  angular_plain bits edge mode depth known x y hx hy nb m =
      angular_most 65535 bits edge n mode x y nb size known hx hy (depth_small bits depth) m

  chroma_block_plain : (bits mode : ℕ) → mode ≤ 34 → Plain n (chroma_samples bits n mode)
  chroma_block_plain bits mode known x y hx hy nb m =
      rw (chroma_plain (chroma_at bits) true n mode nb x y refl refl)
      (pred_between bits n mode x y 0 65535 nb size known hx hy (over 65535 n nb) (under 65535 nb m n)).1

  luma_plain : (bits mode : ℕ) → Depth bits → mode ≤ 34 → Plain n (luma_samples bits n mode)
  luma_plain bits mode depth known x y hx hy nb m = luma_most 65535 bits n mode x y nb size known hx hy (depth_small bits depth) m

-- the entries of the predictors
module _ (n : ℕ) (above left d : List ℕ) (a : AreBytes above) (l : AreBytes left) {number : ℕ} {out : List ℕ} where
  pub planar_spelt : wrote number out ≡ planar_entry n above left d → number ≡ 0
      → Holds n (planar n (neighbours_in 0 above left)) (samples_of out)
  unfolding planar_entry
  planar_spelt met zero =
      let w = done _ _ d met zero in
      let f = flat_fit n _ _ _ w.0 8 0 refl refl in
      let s = side f.0 in
      block_spelt n 0 above left (omega arith) a l (planar n) (planar_plain n s) d f.1.block_long w.1

  pub dc_spelt : (edge : ℕ) → wrote number out ≡ dc_entry n edge above left d → number ≡ 0
      → Holds n (dc (not (eqb edge 0)) n (neighbours_in 0 above left)) (samples_of out)
  unfolding dc_entry
  dc_spelt edge met zero =
      let w = done _ _ d met zero in
      let f = flat_fit n _ _ _ w.0 8 0 refl refl in
      let s = side f.0 in
      let e = not (eqb edge 0) in
      block_spelt n 0 above left (omega arith) a l (dc e n) (dc_plain n s e) d f.1.block_long w.1

  module _ (bits mode corner : ℕ) (c : corner < 65536) where
    pub angular_spelt : (edge : ℕ) → wrote number out ≡ angular_entry bits n mode edge corner above left d → number ≡ 0
        → Holds n (angular bits (not (eqb edge 0)) n mode (neighbours_in corner above left)) (samples_of out)
    unfolding angular_entry
    angular_spelt edge met zero =
        let w = done _ _ d met zero in
        let f = mode_fit _ bits n mode _ _ _ (angular_mode mode) (λ z. omega arith) (λ t. (both_true (leb 2 mode) (mode_ok mode) t).1) w.0 in
        let s = side f.0 in
        let e = not (eqb edge 0) in
        block_spelt n corner above left c a l (angular bits e n mode)
        (angular_plain n s bits e mode (depth_of bits f.0.depth) (highest f.0)) d f.1.0.block_long w.1

    pub chroma_spelt : wrote number out ≡ chroma_block_entry bits n mode corner above left d → number ≡ 0
        → Holds n (chroma_samples bits n mode (neighbours_in corner above left)) (samples_of out)
    unfolding chroma_block_entry
    chroma_spelt met zero =
        let w = done _ _ d met zero in
        let f = mode_fit _ bits n mode _ _ _ (mode_ok mode) (λ z. omega arith) (λ t. t) w.0 in
        let s = side f.0 in
        block_spelt n corner above left c a l (chroma_samples bits n mode) (chroma_block_plain n s bits mode (highest f.0)) d
        f.1.0.block_long w.1

    pub luma_spelt : wrote number out ≡ luma_block_entry bits n mode corner above left d → number ≡ 0
        → Holds n (luma_samples bits n mode (neighbours_in corner above left)) (samples_of out)
    unfolding luma_block_entry
    luma_spelt met zero =
        let w = done _ _ d met zero in
        let f = mode_fit 130 bits n mode _ _ _ (mode_ok mode) (λ z. omega (arith, size_small n z)) (λ t. t) w.0 in
        let s = side f.0 in
        block_spelt n corner above left c a l (luma_samples bits n mode)
        (luma_plain n s bits mode (depth_of bits f.0.depth) (highest f.0)) d f.1.0.block_long w.1

-- the rows that a gather writes: those of one plane, and those of two one after the other
abbrev marked_on_line : Rows → ℕ → ℕ
marked_on_line r i = get_or (in_line r) i 0

abbrev on_lines : Rows → Rows → ℕ → ℕ
on_lines r s i = cond (ltb i 131) (marked_on_line r i) (marked_on_line s (i - 131))

rows_fill : (r : Rows) (d : List ℕ) → rows_at 0 r d ≡ fill (byte_of 2 (marked_on_line r)) (2 * 131) d
unfolding rows_at
rows_fill r d =
    let at = marked_on_line r in
    ap (run (byte_of 2 at) 0 262) (fill_none (byte_of 2 at) d)
    ∙ fill_run (byte_of 2 at) (byte_of 2 at) 0 262 d (λ i q. ap (byte_of 2 at) (let e : i ≡ 0 + i = omega arith in e))

pair_fill : (r s : Rows) (d : List ℕ) → rows_at 262 s (rows_at 0 r d) ≡ fill (byte_of 2 (on_lines r s)) (2 * 262) d
unfolding rows_at
pair_fill r s d =
    ap (run (byte_of 2 (marked_on_line s)) 262 262) (rows_fill r d ∙ fill_same (byte_of 2 (marked_on_line r)) (byte_of 2 (on_lines r s)) 262 d first)
    ∙ fill_run (byte_of 2 (on_lines r s)) (byte_of 2 (marked_on_line s)) 262 262 d second
  where
    first : (i : ℕ) → i < 262 → byte_of 2 (marked_on_line r) i ≡ byte_of 2 (on_lines r s) i
    first i h =
        ap (λ (b : Bool). cond b (marked_on_line r (i / 2)) (marked_on_line s (i / 2 - 131)) / 256 ^ (i % 2) % 256)
        (sym (lt-ltb (i / 2) 131 (omega arith)))

    second : (j : ℕ) → j < 262 → byte_of 2 (marked_on_line s) j ≡ byte_of 2 (on_lines r s) (262 + j)
    second j h =
        let k = (262 + j) / 2 in
        ap₂ (λ (x y : ℕ). marked_on_line s x / 256 ^ y % 256) (let e : j / 2 ≡ k - 131 = omega arith in e)
        (let e : j % 2 ≡ (262 + j) % 2 = omega arith in e)
        ∙ ap (λ (b : Bool). cond b (marked_on_line r k) (marked_on_line s (k - 131)) / 256 ^ ((262 + j) % 2) % 256) (sym (le-ltb k 131 (omega arith)))

-- rows that stand from place k on in a line of so many samples
module _ (line : ℕ → ℕ) (many : ℕ) (d : List ℕ) (room : 2 * many ≤ length d) (k : ℕ) (r : Rows) (long : length r.above ≡ 65)
    (last : k + 131 ≤ many) (same : (j : ℕ) → j < 131 → line (k + j) ≡ marked_on_line r j) where
  at_place : (i j v : ℕ) → i ≡ k + j → j < 131 → marked_on_line r j ≡ v → v ≤ 65535 → get_or (samples_of (fill (byte_of 2 line) (2 * many) d)) i 0 ≡ v
  at_place i j v e h q small =
      let p : line i ≡ v = ap line e ∙ same j h ∙ q in
      stored_at line many d room i (omega arith) (rw p small) ∙ p

  rows_spelt : {out : List ℕ} → out ≡ fill (byte_of 2 line) (2 * many) d → (n : ℕ) (nb : Neighbours) → n ≤ 32 → Agree n (neighbours_of r) nb
      → Most 65535 nb → Agree n (from_one_line k (samples_of out)) nb
  rows_spelt is n nb h a m = rw is (record {
    corner = at_place k 0 nb.corner (omega arith) (omega arith) a.corner m.corner;
    above = λ i q.
        at_place (k + 1 + i) (suc i) (nb.above i) (omega arith) (omega arith)
        (get_or-append r.above r.left 0 i (omega arith) ∙ a.above i q) (m.above i);
    left = λ i q.
        at_place (k + 66 + i) (suc (length r.above + i)) (nb.left i) (omega arith) (omega arith)
        (get_or-append-add r.above r.left i 0 ∙ a.left i q) (m.left i);
  })

-- a luma gather that is served
module _ (len : ℕ) (g : LumaRefGeometry) (zero : luma_no len g ≡ 0) where
  luma_depth : Depth g.bits
  unfolding luma_no
  luma_depth = depth_of g.bits (passed (depth_ok g.bits) _ 1 (omega arith) zero).0

  pub luma_size : Size g.n
  unfolding luma_no
  luma_size = size_of g.n (passed (size_ok g.n) _ 2 (omega arith) (passed (depth_ok g.bits) _ 1 (omega arith) zero).1).0

-- its rows have 65 entries
module _ (n neutral : ℕ) (flags : Flags) (rows : Rows) (h : length rows.above ≡ 65) where
  abbrev found : ℕ
  found = first_marked (flags_on flags (2 * n)) 0 (2 * (2 * n) + 3)

  abbrev made : Rows
  made = substitution.from_line (2 * n) (settled (flags_on flags (2 * n)) (samples_on rows (2 * n)) found) rows

  substituted_long : length (substituted n neutral flags rows).above ≡ 65
  unfolding substituted
  substituted_long = go (ltb found (2 * (2 * n) + 3))
    where
      go : (b : Bool) → length (cond b made (level_rows neutral)).above ≡ 65
      go true = length_fill _ (2 * n + 1) rows.above ∙ h
      go false = length-replicate 65 neutral

gathered_long : (has : ℤ → ℤ → Bool) (sample : ℕ → ℕ → ℕ) (row col n neutral : ℕ)
    → length (gathered_by has sample row col n neutral).above ≡ 65
unfolding gathered_by
gathered_long has sample row col n neutral =
    substituted_long _ _ _ _ (length_fill {A = ℕ} _ (2 * n + 1) (replicate 65 0) ∙ length-replicate {A = ℕ} 65 0)

-- a depth's neutral sample is one
neutral_most : (bits : ℕ) → Depth bits → 2 ^ (bits - 1) ≤ 65535
neutral_most bits depth = at_depth (λ (k : ℕ). 2 ^ (k - 1) ≤ 65535) (omega arith) (omega arith) (omega arith) bits depth

module _ (plane : List ℕ) (g : LumaRefGeometry) (d : List ℕ) (bytes : AreBytes plane) where
  -- the standard's neighbours are samples
  most : Depth g.bits → Most 65535 (standard_neighbours (samples_of plane) g)
  most depth =
      neighbours_most 65535 (grid_of g.picture) (luma_at g.bits) g.n g.block_col.0 g.block_row.0
      (plane_sample (samples_of plane) g) (λ x y. let h = samples_below plane bytes (y * g.picture.width + x) in omega arith)
      (neutral_most g.bits depth)

  pub luma_refs_spelt : {number : ℕ} {out : List ℕ} → wrote number out ≡ luma_entry plane g d → number ≡ 0
      → Agree g.n (from_one_line 0 (samples_of out)) (standard_neighbours (samples_of plane) g)
  unfolding luma_entry luma_rows
  luma_refs_spelt met zero =
      let rows = luma_rows (samples_of plane) g in
      let w = done (luma_entry_no (length plane) (length d) g) (rows_at 0 rows d) d met zero in
      let fine = luma_entry_fine (length plane) (length d) g refl refl (luma-entry-no (length plane) (length d) g refl refl ∙ w.0) in
      let no_is = (luma_spelt_fine plane g fine.1).1 in
      rows_spelt (marked_on_line rows) 131 d fine.0 0 rows (gathered_long _ _ _ _ _ _) (omega arith)
      (λ j h. ap (marked_on_line rows) (let e : 0 + j ≡ j = omega arith in e)) (w.1 ∙ rows_fill rows d) g.n _
      (size_small g.n (luma_size _ g no_is)).1 (luma_standard (samples_of plane) g no_is) (most (luma_depth _ g no_is))

-- the chroma pair's
module _ (cb cr : List ℕ) (g : ChromaRefGeometry) (d : List ℕ) (cb-bytes : AreBytes cb) (cr-bytes : AreBytes cr) (own : OwnPlace g) where
  chroma_most : (plane : List ℕ) → AreBytes plane → Depth g.bits → Most 65535 (standard_chroma (samples_of plane) g)
  chroma_most plane bytes depth =
      neighbours_most 65535 (grid_of (chroma_picture g)) (component_of (format_of g.format) g.bits) g.n g.block_col.0
      g.block_row.0 _ (λ x y. let h = samples_below plane bytes (y * chroma_width (chroma_block g) + x) in omega arith)
      (neutral_most g.bits depth)

  pub chroma_refs_spelt : {number : ℕ} {out : List ℕ} → wrote number out ≡ chroma_entry cb cr g d → number ≡ 0
      → AreChroma (samples_of cb) g (from_one_line 0 (samples_of out)) × AreChroma (samples_of cr) g (from_one_line 131 (samples_of out))
  unfolding chroma_entry chroma_rows
  chroma_refs_spelt met zero =
      let rows = chroma_rows (samples_of cb) g in
      let next = chroma_rows (samples_of cr) g in
      let w = done (chroma_entry_no (length cb) (length cr) (length d) g) (rows_at 262 next (rows_at 0 rows d)) d met zero in
      let fine = chroma_entry_fine (length cb) (length cr) (length d) g refl refl
      (chroma-entry-no (length cb) (length cr) (length d) g refl refl ∙ w.0) in
      let no_is = (chroma_spelt_fine cb cr g fine.1).2 in
      let passes = chroma_passed _ _ g no_is in
      let depth = depth_of g.bits passes.0 in
      let small = (size_small g.n (chroma_fine (chroma_block g) passes.1).size).1 in
      let is = w.1 ∙ pair_fill rows next d in (
        rows_spelt (on_lines rows next) 262 d fine.0 0 rows (gathered_long _ _ _ _ _ _) (omega arith)
            (λ j h.
            ap (λ (i : ℕ). on_lines rows next i) (let e : 0 + j ≡ j = omega arith in e)
            ∙ ap (λ (b : Bool). cond b (marked_on_line rows j) (marked_on_line next (j - 131))) (lt-ltb j 131 h))
            is g.n _ small (chroma_standard _ _ g no_is own (samples_of cb)) (chroma_most cb cb-bytes depth),
        rows_spelt (on_lines rows next) 262 d fine.0 131 next (gathered_long _ _ _ _ _ _) (omega arith)
            (λ j h.
            ap (λ (b : Bool). cond b (marked_on_line rows (131 + j)) (marked_on_line next (131 + j - 131))) (le-ltb (131 + j) 131 (omega arith))
            ∙ ap (marked_on_line next) (let e : 131 + j - 131 ≡ j = omega arith in e))
            is g.n _ small (chroma_standard _ _ g no_is own (samples_of cr)) (chroma_most cr cr-bytes depth),
      )
