-- Document 01, 'The numbers a call gives back', at each door: the rows that apply to it, in the order in which it checks, and that
-- each number is given exactly when its row holds and no row before it, 0 exactly when no row holds. What a call lends is given by
-- its length. Rests on Exact.  BitDepth::from_bits                   depth-from              smooth::should_filter_refs
-- should-filter-refs ChromaFormat::from_idc                format-from             smooth::filter_references
-- filter-references order::decode_order                   decode-order            smooth::filter_luma_refs
-- filter-luma-refs order::is_available                   is-available            flat::predict_planar_into              predict_flat
-- order::luma_reach                     luma-reach              flat::predict_dc_into                  predict_flat
-- order::chroma_reach                   chroma-reach            angular::predict_angular_slices        predict_angular
-- substitution::substitute_refs         substitute-refs         predict::predict_chroma_tb_slices      predict_chroma
-- refs::get_reference_samples           luma_gather             predict::predict_luma_tb_slices        predict_luma
-- gather::get_reference_samples         luma_gather_bytes       scratch_angular::.._into, _fresh       predict_angular_scratch
-- refs::.._chroma_pair                  chroma_gather           scratch_predict::.._chroma_tb_..       predict_chroma_scratch
-- residual::compute_residual_i32_into   compute_residual        scratch_predict::.._luma_tb_..         predict_luma_scratch
-- residual::reconstruct_into            reconstruct  The plan check, walk and replay, whose numbers carry a block, are in
-- promises/specs/run_tables/TableWalk; the camera's entries and the two of gather that store rows in TableBytes there; what a
-- refused call gives back is in Refused.
use Rattle.std.specs.Prelude.{◌≡◌, None, Ok, Err, Bool, true, false, cond, ◌&&◌, ◌||◌, List, [], ◌∷◌, ◌↔◌, ℕ, zero, suc, ◌+◌, ◌*◌, ◌/◌, ◌%◌, ◌<◌, ◌≤◌, leb, eqb, ℤ, pos, nat_abs, length, get_or}
use Rattle.std.proofs.Math.Path.{refl}
use Rattle.std.proofs.Common.{ap, subst, true≢false, inl, inr, ⊎_elim, not-suc-le-zero, eq-or-lt_of_le, le_of_suc-le-suc, arith, le-leb, eq-eqb, ne_eqb, eqb-true, leb-true, leb-false}
use Rattle.std.proofs.lemmas.Bool.{false≢true, eqb-false}
use Rattle.domain.specs.Domain.{depth_ok, size_ok, side_ok, ctu_ok, unit_ok}
use Rattle.domain.specs.Facts.{Depth, Size, Side, Ctu, Unit, depth_of, size_of, side-of, ctu_of, unit_of, at_depth, at_size, size_small}
use Rattle.fmt.specs.declared.depth.BitDepth.TheVariants.{Eight, Ten, Twelve}
use Rattle.domain.specs.declared.refusal.Refusal.TheVariants as refusals
use Rattle.fmt.specs.declared.ChromaFormat.{ChromaFormat}
use Rattle.fmt.specs.declared.ChromaFormat.TheVariants.{Monochrome, Yuv420, Yuv422, Yuv444}
use Rattle.fmt.specs.declared.LumaRow.{LumaRow}
use Rattle.fmt.specs.declared.LumaCol.{LumaCol}
use Rattle.fmt.specs.depth.Depth.{depth_from, depth_number}
use Rattle.fmt.specs.Fmt.{format_from, sub_width}
use Rattle.order.specs.declared.Picture.{Picture}
use Rattle.order.specs.declared.LumaNeighbour.{LumaNeighbour}
use Rattle.order.specs.declared.LumaBlock.{LumaBlock}
use Rattle.order.specs.declared.ChromaBlock.{ChromaBlock}
use Rattle.order.specs.Answers.{Reached}
use Rattle.order.specs.Order.{picture_ok, place_ok, order_no, decode_order, is_available}
use Rattle.order.specs.Reach.{in_plane, luma_place_ok, luma_reach_no, luma_reach, chroma_height, chroma_width, has_chroma, chroma_place_ok}
use Rattle.order.specs.Reach.{chroma_reach_no, chroma_reach}
use Rattle.domain.specs.declared.rows.Rows.{Rows}
use Rattle.refs.specs.declared.substitution.Flags.{Flags}
use Rattle.refs.specs.declared.LumaRefGeometry.{LumaRefGeometry}
use Rattle.refs.specs.declared.ChromaRefGeometry.{ChromaRefGeometry}
use Rattle.refs.specs.substitution.Door.{substitute_no, substitute_refs}
use Rattle.refs.specs.Door.{luma_block, chroma_picture, chroma_block}
use Rattle.refs.specs.Door.{chroma_length, chroma_number, chroma_no, get_reference_samples_chroma_pair}
use Rattle.refs.specs.Served.{gather_no}
use Rattle.smooth.specs.Smoothing as smoothing
use Rattle.smooth.specs.Smoothing.{should_filter_refs, filter_no, filter_references}
use Rattle.predict.specs.refusals.Refusals.{flat_no, Lengths, lengths, is_enough, angular_no, predict_no, refs_no, rows_no}
use Rattle.predict.specs.Lent.{with_scratch}
use Rattle.samples.specs.deltas.Deltas.{residual_ok}
use Rattle.residual.specs.Residual.{all_in_range, residual_no, reconstruct_no}
use Rattle.promises.specs.tables.Exact.{Row, ◌when◌, ◌or◌, Exact, First, ExactFirst, Tells, exact_none, exact_row, exact_answer}
use Rattle.promises.specs.tables.Exact.{first_exact, first_test, all_of, and_more, at-most, less, same, fact}

-- number 4: a side or the CTU outside the domain
abbrev pub BadPicture : Picture → Type 0
BadPicture p = (¬ Side p.width) or (¬ Side p.height) or (¬ Ctu p.ctu)

-- number 6: not at a multiple of n, or not wholly in the plane
abbrev pub BadPlace : ℕ → ℕ → ℕ → ℕ → ℕ → Type 0
BadPlace height width row col n = (¬ (row % n ≡ 0)) or (¬ (col % n ≡ 0)) or height < row + n or width < col + n

-- number 6: the unit, and a place outside the picture
abbrev pub Outside : Picture → ℕ → ℕ → Type 0
Outside p row col = (¬ Unit p.unit) or p.height ≤ row or p.width ≤ col

-- number 6 of a luma block
abbrev pub BadLuma : LumaBlock → Type 0
BadLuma b =
    let p = b.picture in
    BadPlace p.height p.width b.row.0 b.col.0 b.n or p.ctu < b.n or (¬ Unit p.unit) or b.n < p.unit

-- number 6 of a chroma block, counted in chroma samples, n against the CTU over the width's subsampling; the current place is a luma place
abbrev pub BadChroma : ChromaBlock → Type 0
BadChroma b =
    BadPlace (chroma_height b) (chroma_width b) b.row.0 b.col.0 b.n or b.picture.ctu / sub_width b.format < b.n
    or Outside b.picture b.cur_luma_row.0 b.cur_luma_col.0

-- number 5 of a predictor: the rows, the block buffer, and the scratch
abbrev pub Short : ℕ → Lengths → Type 0
Short n l = l.above < 2 * n or l.left < 2 * n or l.pred < n * n or l.refs < 193 or l.indices < 32 or l.fractions < 32

-- number 8: one of the first k residuals outside its range
abbrev pub Beyond : List ℤ → ℕ → Type 0
Beyond residual k = (i : ℕ) × ((i < k) × (65535 < nat_abs (get_or residual i (pos 0))))

-- The tests of the domain
pub depth : (bits : ℕ) → Tells (depth_ok bits) (¬ Depth bits)
depth bits = fact (depth_of bits) (at_depth (λ (k : ℕ). depth_ok k ≡ true) refl refl refl bits)

pub size : (n : ℕ) → Tells (size_ok n) (¬ Size n)
size n = fact (size_of n) (at_size (λ (k : ℕ). size_ok k ≡ true) refl refl refl refl n)

side : (s : ℕ) → Tells (side_ok s) (¬ Side s)
side s = fact (side-of s) (λ h. simp (le-leb 8 s h.low, le-leb s 4096 h.high, eq-eqb (s % 8) 0 h.whole))

ctu : (c : ℕ) → Tells (ctu_ok c) (¬ Ctu c)
ctu c = fact (ctu_of c) (⊎_elim (λ e. ap ctu_ok e) (⊎_elim (λ e. ap ctu_ok e) (λ e. ap ctu_ok e)))

unit : (u : ℕ) → Tells (unit_ok u) (¬ Unit u)
unit u = fact (unit_of u) (⊎_elim (λ e. ap unit_ok e) (λ e. ap unit_ok e))

pub picture : (p : Picture) → Tells (picture_ok p) (BadPicture p)
picture p = all_of (all_of (side p.width) (side p.height)) (ctu p.ctu)

pub placed : (height width row col n : ℕ) → Tells (in_plane height width row col n) (BadPlace height width row col n)
placed height width row col n = all_of (all_of (all_of (same (row % n) 0) (same (col % n) 0)) (at-most (row + n) height))
    (at-most (col + n) width)

outside : (p : Picture) (row col : ℕ) → Tells (place_ok p row col) (Outside p row col)
outside p row col = all_of (all_of (unit p.unit) (less row p.height)) (less col p.width)

-- a test that the call is handed
pub held : (b : Bool) → Tells b (¬ (b ≡ true))
held b = fact (λ e. e) (λ e. e)

pub scratch : {b : Bool} {P : Type 0} → Tells b P → (refs indices fractions : ℕ)
    → Tells (b && leb 193 refs && leb 32 indices && leb 32 fractions) (P or refs < 193 or indices < 32 or fractions < 32)
scratch t refs indices fractions = all_of (all_of (all_of t (at-most 193 refs)) (at-most 32 indices)) (at-most 32 fractions)

-- fmt
pub depth-from : (bits : ℕ) → Exact (depth_number (depth_from bits)) ((1 when ¬ Depth bits) ∷ [])
depth-from bits = subst (λ (k : ℕ). Exact k ((1 when ¬ Depth bits) ∷ [])) (go (eqb bits 8) (eqb bits 10) (eqb bits 12))
    (exact_row (depth bits) refl (λ e. exact_none))
  where
    go : (a b c : Bool) → cond (a || b || c) 0 1 ≡ depth_number
        (cond a (Ok Eight) (cond b (Ok Ten) (cond c (Ok Twelve) (Err refusals.Depth))))
    go true b c = refl
    go false true c = refl
    go false false true = refl
    go false false false = refl

-- a format refuses nothing: above 3 it is unknown, and only the chroma gather has a number for that
pub format-from : (idc : ℕ) → (format_from idc ≡ None) ↔ (3 < idc)
format-from idc = (λ e. go (leb idc 3) refl e, λ h. unknown (λ k l e. omega (arith, e)))
  where
    unknown : ((k : ℕ) → k ≤ 3 → ¬ (idc ≡ k)) → format_from idc ≡ None
    unknown h = simp (
      ne_eqb idc 0 (h 0 (omega arith)),
      ne_eqb idc 1 (h 1 (omega arith)),
      ne_eqb idc 2 (h 2 (omega arith)),
      ne_eqb idc 3
          (h 3 (omega arith)),
    )

    named : (k : ℕ) → k ≤ 3 → ¬ (format_from k ≡ None)
    named zero h e = let z : ◌≡◌ {A = ℕ} 0 1 = cc in omega arith
    named (suc zero) h e = let z : ◌≡◌ {A = ℕ} 0 1 = cc in omega arith
    named (suc (suc zero)) h e = let z : ◌≡◌ {A = ℕ} 0 1 = cc in omega arith
    named (suc (suc (suc zero))) h e = let z : ◌≡◌ {A = ℕ} 0 1 = cc in omega arith
    named (suc (suc (suc (suc k)))) h e = omega arith

    go : (b : Bool) → leb idc 3 ≡ b → format_from idc ≡ None → 3 < idc
    go true q e = absurd (named idc (leb-true idc 3 q) e)
    go false q e = leb-false idc 3 q

-- order
module _ (p : Picture) (row : LumaRow) (col : LumaCol) where
  pub decode-order : Exact (decode_order p row col).no ((4 when BadPicture p) ∷ (6 when Outside p row.0 col.0) ∷ [])
  unfolding decode_order order_no
  decode-order = exact_row (picture p) refl (λ e. exact_row (outside p row.0 col.0) refl (λ e. exact_none))

  pub is-available : (nb : LumaNeighbour) → Exact (is_available p nb row col).no
      ((4 when BadPicture p) ∷ (6 when Outside p row.0 col.0) ∷ [])
  unfolding is_available decode_order
  is-available nb = decode-order

-- blocks of the two kinds
pub luma-place : (b : LumaBlock) → Tells (luma_place_ok b) (BadLuma b)
luma-place b =
    let p = b.picture in
    all_of (all_of (all_of (placed p.height p.width b.row.0 b.col.0 b.n) (at-most b.n p.ctu)) (unit p.unit))
    (at-most p.unit b.n)

chroma-place : (b : ChromaBlock) → Tells (chroma_place_ok b) (BadChroma b)
chroma-place b =
    all_of
    (all_of (placed (chroma_height b) (chroma_width b) b.row.0 b.col.0 b.n)
    (at-most b.n (b.picture.ctu / sub_width b.format)))
    (outside b.picture b.cur_luma_row.0 b.cur_luma_col.0)

pub luma-reach : (b : LumaBlock) → Exact (luma_reach b).no
    ((2 when ¬ Size b.n) ∷ (4 when BadPicture b.picture) ∷ (6 when BadLuma b) ∷ [])
unfolding luma_reach luma_reach_no
luma-reach b =
    exact_answer (λ (r : Reached). r.no) _ _ refl refl
    (exact_row (size b.n) refl (λ e. exact_row (picture b.picture) refl (λ e. exact_row (luma-place b) refl (λ e. exact_none))))

coloured : (f : ChromaFormat) → Tells (has_chroma f) (f ≡ Monochrome)
coloured Monochrome = record { passed = λ e. absurd (false≢true e); failed = λ e. refl }
coloured Yuv420 = record { passed = λ e h. true≢false (ap has_chroma h); failed = λ e. absurd (true≢false e) }
coloured Yuv422 = record { passed = λ e h. true≢false (ap has_chroma h); failed = λ e. absurd (true≢false e) }
coloured Yuv444 = record { passed = λ e h. true≢false (ap has_chroma h); failed = λ e. absurd (true≢false e) }

pub chroma-reach : (b : ChromaBlock)
    → Exact (chroma_reach b).no
    ((2 when ¬ Size b.n) ∷ (4 when BadPicture b.picture or b.format ≡ Monochrome) ∷ (6 when BadChroma b) ∷ [])
unfolding chroma_reach chroma_reach_no
chroma-reach b =
    exact_answer (λ (r : Reached). r.no) _ _ refl refl
    (exact_row (size b.n) refl
    (λ e. exact_row (all_of (picture b.picture) (coloured b.format)) refl
    (λ e. exact_row (chroma-place b) refl (λ e. exact_none))))

-- refs
pub substitute-refs : (rows : Rows) (flags : Flags) (n bits : ℕ)
    → Exact (substitute_refs rows flags n bits).no ((1 when ¬ Depth bits) ∷ (2 when ¬ Size n) ∷ [])
unfolding substitute_refs substitute_no
substitute-refs rows flags n bits = exact_row (depth bits) refl (λ e. exact_row (size n) refl (λ e. exact_none))

-- the number of a gather, where k is the reach's: its 2 and 4 come before the planes' 5, and where nothing refuses it is k
pub gather_number : (bits k : ℕ) (whole : Bool)
    → ExactFirst k (gather_no bits k whole) ((1 when ¬ Depth bits) ∷ (k when k ≡ 2 or k ≡ 4) ∷ (5 when ¬ (whole ≡ true)) ∷ [])
gather_number bits k whole =
    first_exact k _ _
    (first_test k (λ (b : Bool). cond b (cond (eqb k 2 || eqb k 4) k (cond whole k 5)) 1) rest (depth bits)
    (λ e. go (eqb k 2) (eqb k 4) refl refl))
  where
    rest : List (Row ℕ)
    rest = (k when k ≡ 2 or k ≡ 4) ∷ (5 when ¬ (whole ≡ true)) ∷ []

    go : (a b : Bool) → eqb k 2 ≡ a → eqb k 4 ≡ b → First k (cond (a || b) k (cond whole k 5)) rest
    go true b p q = inl (inl (eqb-true k 2 p), refl)
    go false true p q = inl (inr (eqb-true k 4 q), refl)
    go false false p q =
        inr (⊎_elim (eqb-false k 2 p) (eqb-false k 4 q), first_test k (λ (b : Bool). cond b k 5) [] (held whole) (λ e. refl))

-- the rows of a luma gather, where P says that the plane is not whole
abbrev pub luma_table : Type 0 → LumaRefGeometry → List (Row ℕ)
luma_table P g =
    (1 when ¬ Depth g.bits) ∷ (2 when ¬ Size g.n) ∷ (4 when BadPicture g.picture) ∷ (5 when P) ∷ (6 when BadLuma (luma_block g))
    ∷ []

-- the rows of a chroma gather, where P says that a plane is not whole
abbrev pub chroma_table : Type 0 → ChromaRefGeometry → List (Row ℕ)
chroma_table P g =
    (1 when ¬ Depth g.bits) ∷ (2 when ¬ Size g.n) ∷ (4 when BadPicture (chroma_picture g) or g.format < 1 or 3 < g.format)
    ∷ (5 when P)
    ∷ (6 when BadChroma (chroma_block g)) ∷ []

pub chroma-number : {whole : Bool} {P : Type 0} → Tells whole P → (g : ChromaRefGeometry) → Exact (chroma_number whole g) (chroma_table P g)
chroma-number t g =
    exact_row (depth g.bits) refl
    (λ e. exact_row (size g.n) refl
    (λ e. exact_row (all_of (all_of (picture (chroma_picture g)) (at-most 1 g.format)) (at-most g.format 3)) refl
    (λ e. exact_row t refl (λ e. exact_row (chroma-place (chroma_block g)) refl (λ e. exact_none)))))

pub chroma_gather : (cb cr : List ℕ) (g : ChromaRefGeometry)
    → Exact (get_reference_samples_chroma_pair cb cr g).no
    (chroma_table ((¬ (length cb ≡ chroma_length g)) or (¬ (length cr ≡ chroma_length g))) g)
unfolding get_reference_samples_chroma_pair chroma_no
chroma_gather cb cr g = chroma-number (all_of (same (length cb) (chroma_length g)) (same (length cr) (chroma_length g))) g

-- smooth
pub should-filter-refs : (mode n : ℕ) → Exact (should_filter_refs mode n).no ((2 when ¬ Size n) ∷ (3 when 34 < mode) ∷ [])
unfolding should_filter_refs
should-filter-refs mode n = exact_row (size n) refl (λ e. exact_row (at-most mode 34) refl (λ e. exact_none))

module _ (corner : ℕ) (above left : List ℕ) (n : ℕ) where
  rows_number : Exact (filter_no n (length above) (length left)) ((2 when ¬ Size n) ∷ (5 when length above < 65 or length left < 65) ∷ [])
  rows_number = exact_row (size n) refl (λ e. exact_row (all_of (at-most 65 (length above)) (at-most 65 (length left))) refl
      (λ e. exact_none))

  pub filter-references : Exact (filter_references corner above left n).no
      ((2 when ¬ Size n) ∷ (5 when length above < 65 or length left < 65) ∷ [])
  unfolding filter_references
  filter-references = rows_number

  pub filter-luma-refs : (bits : ℕ)
      → Exact (smoothing.filter_luma_refs true corner above left n bits).no
      ((1 when ¬ Depth bits) ∷ (2 when ¬ Size n) ∷ (5 when length above < 65 or length left < 65) ∷ [])
  unfolding smoothing.filter_luma_refs
  filter-luma-refs bits = exact_row (depth bits) refl (λ e. rows_number)

-- flat, angular, predict
pub predict_flat : (n : ℕ) (above left pred : List ℕ)
    → Exact (flat_no n (length above) (length left) (length pred))
    ((2 when ¬ Size n) ∷ (5 when length above < 2 * n or length left < 2 * n or length pred < n * n) ∷ [])
unfolding flat_no
predict_flat n above left pred =
    exact_row (size n) refl (λ e. exact_row (all_of (all_of (at-most (2 * n) (length above)) (at-most (2 * n) (length left)))
    (at-most (n * n) (length pred))) refl (λ e. exact_none))

-- a vertical mode in parts: number 11 is of rows that run backward or leave the block
pub vertical_refs : (n mode : ℕ) (above left refs : List ℕ)
    → Exact (refs_no n mode (length above) (length left) (length refs))
    ((2 when ¬ Size n) ∷ (3 when mode < 18 or 34 < mode) ∷ (5 when length above < 2 * n or length left < 2 * n or length refs < 193) ∷ [])
unfolding refs_no
vertical_refs n mode above left refs =
    exact_row (size n) refl (λ e. exact_row (all_of (at-most 18 mode) (at-most mode 34)) refl (λ e. exact_row (all_of (all_of
    (at-most (2 * n) (length above)) (at-most (2 * n) (length left))) (at-most 193 (length refs))) refl (λ e. exact_none)))

pub vertical_rows : (n mode first end : ℕ) (above refs pred : List ℕ)
    → Exact (rows_no n mode first end (length above) (length refs) (length pred))
    ((2 when ¬ Size n) ∷ (3 when mode < 18 or 34 < mode) ∷ (5 when length above < 2 * n or length refs < 193 or length pred < n * n)
    ∷ (11 when end < first or n < end) ∷ [])
unfolding rows_no
vertical_rows n mode first end above refs pred =
    exact_row (size n) refl (λ e. exact_row (all_of (at-most 18 mode) (at-most mode 34)) refl (λ e. exact_row (all_of (all_of
    (at-most (2 * n) (length above)) (at-most 193 (length refs))) (at-most (n * n) (length pred))) refl
    (λ e. exact_row (all_of (at-most first end) (at-most end n)) refl (λ e. exact_none))))

module _ (bits n mode : ℕ) where
  -- the rows of an angular call, and of one that takes every mode, where P says that something lent is short
  abbrev pub angular_table : Type 0 → List (Row ℕ)
  angular_table P = (1 when ¬ Depth bits) ∷ (2 when ¬ Size n) ∷ (3 when mode < 2 or 34 < mode) ∷ (5 when P) ∷ []

  abbrev pub predict_table : Type 0 → List (Row ℕ)
  predict_table P = (1 when ¬ Depth bits) ∷ (2 when ¬ Size n) ∷ (3 when 34 < mode) ∷ (5 when P) ∷ []

  pub angular_number : {P : Type 0} (l : Lengths) → Tells (is_enough n l) P → Exact (angular_no bits n mode l) (angular_table P)
  angular_number l t =
      exact_row (depth bits) refl
      (λ e. exact_row (size n) refl (λ e. exact_row (all_of (at-most 2 mode) (at-most mode 34)) refl
      (λ e. exact_row t refl (λ e. exact_none))))

  pub predict_number : {P : Type 0} (l : Lengths) → (Size n → Tells (is_enough n l) P) → Exact (predict_no bits n mode l) (predict_table P)
  predict_number l t = exact_row (depth bits) refl
      (λ e. exact_row (size n) refl (λ s. exact_row (at-most mode 34) refl (λ e. exact_row (t (size_of n s)) refl (λ e. exact_none))))

  pub rows_short : (above left pred : ℕ)
      → Tells (leb (2 * n) above && leb (2 * n) left && leb (n * n) pred) (above < 2 * n or left < 2 * n or pred < n * n)
  rows_short above left pred = all_of (all_of (at-most (2 * n) above) (at-most (2 * n) left)) (at-most (n * n) pred)

  -- rows of 65 entries are never short
  whole_rows : (pred : ℕ) → Size n → Tells (leb (2 * n) 65 && leb (2 * n) 65 && leb (n * n) pred) (pred < n * n)
  whole_rows pred s = rw (le-leb (2 * n) 65 (omega (arith, size_small n s))) (at-most (n * n) pred)

  pub predict_luma : (pred refs indices fractions : ℕ)
      → Exact (predict_no bits n mode (lengths 65 65 pred refs indices fractions))
      (predict_table (pred < n * n or refs < 193 or indices < 32 or fractions < 32))
  predict_luma pred refs indices fractions = predict_number (lengths 65 65 pred refs indices fractions)
      (λ s. scratch (whole_rows pred s) refs indices fractions)

  -- the tables in a struct, or made by the call: they are never short
  pub predict_angular_scratch : (above left pred : ℕ)
      → Exact (angular_no bits n mode (with_scratch above left pred)) (angular_table (above < 2 * n or left < 2 * n or pred < n * n))
  predict_angular_scratch above left pred = angular_number (with_scratch above left pred)
      (and_more (and_more (and_more (rows_short above left pred))))

  pub predict_chroma_scratch : (above left pred : ℕ)
      → Exact (predict_no bits n mode (with_scratch above left pred)) (predict_table (above < 2 * n or left < 2 * n or pred < n * n))
  predict_chroma_scratch above left pred = predict_number (with_scratch above left pred)
      (λ s. and_more (and_more (and_more (rows_short above left pred))))

  pub predict_luma_scratch : (pred : ℕ) → Exact (predict_no bits n mode (with_scratch 65 65 pred)) (predict_table (pred < n * n))
  predict_luma_scratch pred = predict_number (with_scratch 65 65 pred) (λ s. and_more (and_more (and_more (whole_rows pred s))))

-- residual
buffers : (n a b c : ℕ) → Tells (leb (n * n) a && leb (n * n) b && leb (n * n) c) (a < n * n or b < n * n or c < n * n)
buffers n a b c = all_of (all_of (at-most (n * n) a) (at-most (n * n) b)) (at-most (n * n) c)

pub compute_residual : (n : ℕ) (orig pred : List ℕ) (residual : List ℤ)
    → Exact (residual_no n (length orig) (length pred) (length residual))
    ((2 when ¬ Size n) ∷ (5 when length orig < n * n or length pred < n * n or length residual < n * n) ∷ [])
unfolding residual_no
compute_residual n orig pred residual = exact_row (size n) refl
    (λ e. exact_row (buffers n (length orig) (length pred) (length residual)) refl (λ e. exact_none))

one_in : (r : ℤ) → Tells (residual_ok r) (65535 < nat_abs r)
one_in r = at-most (nat_abs r) 65535

all_in : (residual : List ℤ) (k : ℕ) → Tells (all_in_range residual k) (Beyond residual k)
unfolding all_in_range
all_in residual zero = record { passed = λ e h. not-suc-le-zero h.1.0; failed = λ e. absurd (true≢false e) }
all_in residual (suc k) =
    let t = all_of (all_in residual k) (one_in (get_or residual k (pos 0))) in
    record {
      passed = λ e h.
          t.passed e
          (⊎_elim (λ q. inr (subst (λ (i : ℕ). 65535 < nat_abs (get_or residual i (pos 0))) q h.1.1)) (λ l. inl (h.0, (l, h.1.1)))
          (eq-or-lt_of_le (le_of_suc-le-suc h.1.0)));
      failed = λ e. ⊎_elim (λ h. (h.0, (omega (arith, h.1.0), h.1.1))) (λ h. (k, (omega arith, h))) (t.failed e);
    }

pub reconstruct : (bits n : ℕ) (pred : List ℕ) (residual : List ℤ) (out : List ℕ)
    → Exact (reconstruct_no bits n (length pred) residual (length out))
    ((1 when ¬ Depth bits) ∷ (2 when ¬ Size n) ∷ (5 when length pred < n * n or length residual < n * n or length out < n * n)
    ∷ (8 when Beyond residual (n * n)) ∷ [])
unfolding reconstruct_no
reconstruct bits n pred residual out =
    exact_row (depth bits) refl
    (λ e. exact_row (size n) refl
    (λ e. exact_row (buffers n (length pred) (length residual) (length out)) refl
    (λ e. exact_row (all_in residual (n * n)) refl (λ e. exact_none))))
