-- Blocks that the reach doors serve, as facts, and that the code's rule is document 01's, for luma (for chroma: proofs/ChromaRule).
-- Assumes nothing.
use Rattle.std.specs.Prelude.{◌≡◌, refl, Bool, true, false, ◌&&◌, ℕ, ◌+◌, ◌-◌, ◌*◌, ◌/◌, ◌%◌, ◌^◌, ◌≤◌, ◌<◌, leb, ltb, eqb, ℤ, pos, negsuc, ◌-ℤ◌}
use Rattle.std.proofs.Common.{sym, ap, ap₂, ◌∙◌, subst, inl, ⊎_elim, mul-one, zero-mul, add-mul, div-mul-le_self, div-le_self, arith, leb-true, ltb-true, eqb-true, lt-ltb, le-ltb}
use Rattle.std.proofs.Math.Path.{fun_ext}
use Rattle.std.proofs.Math.Decide.{dec_lt}
use Rattle.laws.specs.Choose.{both_true, both_same, passed}
use Rattle.laws.specs.Diff.{sub_pos}
use Rattle.h265.specs.Order.{min_tb_addr_zs}
use Rattle.domain.specs.Domain.{size_ok, side_ok, ctu_ok, unit_ok}
use Rattle.domain.specs.Facts.{Size, Ctu, Side, size_of, size_small, side-of, ctu_of, unit_of}
use Rattle.fmt.specs.declared.ChromaFormat.{ChromaFormat}
use Rattle.fmt.specs.Fmt.{sub_width, sub_height, Subsampling, step_width, step_height}
use Rattle.fmt.specs.Places.{saturated, luma_row, luma_col}
use Rattle.order.specs.declared.Picture.{Picture}
use Rattle.order.specs.declared.LumaBlock.{LumaBlock}
use Rattle.order.specs.declared.ChromaBlock.{ChromaBlock}
use Rattle.order.specs.Answers.{Reached}
use Rattle.order.specs.declared.Shifts.{Shifts}
use Rattle.order.specs.declared.Site.{Site}
use Rattle.order.specs.Order.{picture_ok, place_ok, number_at, before}
use Rattle.order.specs.Good.{Good, sized, shifts_of, small_of}
use Rattle.order.specs.Reach.{corner_has, above_has, left_has, leading, reach_by, in_plane, luma_place_ok, luma_reach_no, luma_has}
use Rattle.order.specs.Reach.{chroma_height, chroma_width, has_chroma, chroma_block_ok, chroma_place_ok, chroma_reach_no}
use Rattle.order.specs.Edges.{number_by, Sited, above_there, left_there, corner_there, edges_of}
use Rattle.order.specs.Walk.{span}

-- a picture's tests
pub picture-of : (p : Picture) → picture_ok p ≡ true → Side p.width × (Side p.height × Ctu p.ctu)
picture-of p e =
    let q = both_true (side_ok p.width && side_ok p.height) (ctu_ok p.ctu) e in
    let s = both_true (side_ok p.width) (side_ok p.height) q.0 in
    (side-of p.width s.0, (side-of p.height s.1, ctu_of p.ctu q.1))

-- a block's tests in its plane
pub record InPlane (height width row col n : ℕ) : Type 0 where
  pub row_at : row % n ≡ 0
  pub col_at : col % n ≡ 0
  pub row_in : row + n ≤ height
  pub col_in : col + n ≤ width

pub in-plane : (height width row col n : ℕ) → in_plane height width row col n ≡ true → InPlane height width row col n
in-plane height width row col n e =
    let a = both_true (eqb (row % n) 0 && eqb (col % n) 0 && leb (row + n) height) (leb (col + n) width) e in
    let b = both_true (eqb (row % n) 0 && eqb (col % n) 0) (leb (row + n) height) a.0 in
    let c = both_true (eqb (row % n) 0) (eqb (col % n) 0) b.0 in
    record {
      row_at = eqb-true (row % n) 0 c.0;
      col_at = eqb-true (col % n) 0 c.1;
      row_in = leb-true (row + n) height b.1;
      col_in = leb-true (col + n) width a.1;
    }

-- Luma
pub record LumaFine (b : LumaBlock) : Type 0 where
  pub size : Size b.n
  pub good : Good b.picture
  pub placed : InPlane b.picture.height b.picture.width b.row.0 b.col.0 b.n
  pub in_ctu : b.n ≤ b.picture.ctu
  pub unit_in : b.picture.unit ≤ b.n

pub luma_fine : (b : LumaBlock) → luma_reach_no b ≡ 0 → LumaFine b
unfolding luma_reach_no
luma_fine b e =
    let p = b.picture in
    let s = passed (size_ok b.n) _ 2 (omega arith) e in
    let q = passed (picture_ok p) _ 4 (omega arith) s.1 in
    let t = passed (luma_place_ok b) 0 6 (omega arith) q.1 in
    let i = in_plane p.height p.width b.row.0 b.col.0 b.n in
    let w = both_true (i && leb b.n p.ctu && unit_ok p.unit) (leb p.unit b.n) t.0 in
    let v = both_true (i && leb b.n p.ctu) (unit_ok p.unit) w.0 in
    let u = both_true i (leb b.n p.ctu) v.0 in
    let f = picture-of p q.0 in
    record {
      size = size_of b.n s.0;
      good = record { wide = f.0; tall = f.1.0; ctus = f.1.1; units = unit_of p.unit v.1 };
      placed = in-plane p.height p.width b.row.0 b.col.0 b.n u.0;
      in_ctu = leb-true b.n p.ctu u.1;
      unit_in = leb-true p.unit b.n w.1;
    }

-- A block at (row, col) of a plane of so many rows and columns, over the luma grid.
pub record Over (e : Site) (height width row col : ℕ) : Type 0 where
  pub downs : Subsampling e.down
  pub acrosses : Subsampling e.across
  pub row_is : e.row.0 ≡ row * e.down
  pub col_is : e.col.0 ≡ col * e.across
  pub above_is : e.above.0 ≡ (row - 1) * e.down
  pub left_is : e.left.0 ≡ (col - 1) * e.across
  pub rows_are : e.rows ≡ height - row
  pub cols_are : e.cols ≡ width - col

-- it lies in the grid
together : (v side step : ℕ) → v ≤ side → v * step + (side - v) * step ≡ side * step
together v side step h = sym (add-mul v (side - v) step) ∙ ap (λ (k : ℕ). k * step) (let q : v + (side - v) ≡ side = omega arith in q)

sited : (p : Picture) (s : Shifts) (e : Site) (height width row col n : ℕ) → Good p → s ≡ shifts_of p → Size n
    → InPlane height width row col n → Over e height width row col
    → height * e.down ≤ 4096 → width * e.across ≤ 4096 → Sited s e p.unit n
sited p s e height width row col n g es size i o tall wide =
    let some = size_small n size in
    record {
      small = small_of g s es;
      shift = ap (λ (t : Shifts). 2 ^ t.unit) es ∙ (sized g).unit_is;
      units = g.units;
      size = size;
      downs = o.downs;
      acrosses = o.acrosses;
      row_at = record { sample = row; whole = i.row_at; on = o.row_is };
      col_at = record { sample = col; whole = i.col_at; on = o.col_is };
      tall = along row height e.down e.row.0 e.rows (omega (arith, i.row_in)) o.row_is o.rows_are tall;
      wide = along col width e.across e.col.0 e.cols (omega (arith, i.col_in)) o.col_is o.cols_are wide;
      above_in = before_it row height e.down e.above.0 (omega (arith, i.row_in)) o.above_is tall o.downs;
      left_in = before_it col width e.across e.left.0 (omega (arith, i.col_in)) o.left_is wide o.acrosses;
    }
  where
    along : (v side step x room : ℕ) → v ≤ side → x ≡ v * step → room ≡ side - v → side * step ≤ 4096 → x + room * step ≤ 4096
    along v side step x room h ex er b =
        let q : x + room * step ≡ side * step = ap₂ (λ (y k : ℕ). y + k * step) ex er ∙ together v side step h in
        omega arith

    before_it : (v side step x : ℕ) → v < side → x ≡ (v - 1) * step → side * step ≤ 4096 → Subsampling step → x < 4096
    before_it v side step x h ex b t =
        let q = span 0 (v - 1) side step (omega arith) (omega arith) t in
        omega arith

-- a rule that tells of each sample of a plane by a test of its own, and of none outside it
pub record TellsEach (has : ℤ → ℤ → Bool) (height width : ℕ) (there : ℕ → ℕ → Bool) : Type 0 where
  pub inside : (r c : ℕ) → has (pos r) (pos c) ≡ (ltb r height && ltb c width && there r c)
  pub top : (r : ℕ) (c : ℤ) → has (negsuc r) c ≡ false
  pub side : (r c : ℕ) → has (pos r) (negsuc c) ≡ false

-- a row or column before a place
up : (v : ℕ) → 0 < v → pos v -ℤ pos 1 ≡ pos (v - 1)
up v h = sub_pos v 1 h

-- a place past another, in what is left of a side
past : (v i side : ℕ) → ltb i (side - v) ≡ ltb (v + i) side
past v i side = go (dec_lt (v + i) side)
  where
    go : Dec (v + i < side) → ltb i (side - v) ≡ ltb (v + i) side
    go (yes h) = lt-ltb i (side - v) (omega arith) ∙ sym (lt-ltb (v + i) side h)
    go (no h) = le-ltb i (side - v) (omega arith) ∙ sym (le-ltb (v + i) side (omega arith))

-- where the rule's tests are those of the numbers below a limit, the code's rule is that rule
module _ {has : ℤ → ℤ → Bool} {height width : ℕ} {there : ℕ → ℕ → Bool} (t : TellsEach has height width there) (s : Shifts) (e : Site)
    (row col : ℕ)
    (rin : row < height) (cin : col < width) (o : Over e height width row col) where
  abbrev Limits : ℕ → ℕ → ℕ → Type 0
  Limits limit r c = there r c ≡ ltb (number_by s (r * e.down) (c * e.across)) limit

  -- the first row or column of all
  none_before : (v step x : ℕ) → x ≡ v * step → v ≡ 0 → ltb 0 x ≡ false
  none_before v step x ex z = le-ltb 0 x (omega (arith, ap (λ (k : ℕ). k * step) z ∙ zero-mul step))

  some_before : (v step x : ℕ) → x ≡ v * step → Subsampling step → 0 < v → ltb 0 x ≡ true
  some_before v step x ex q h = lt-ltb 0 x (⊎_elim (λ w. omega (arith, ap (λ (k : ℕ). v * k) w))
      (λ w. omega (arith, ap (λ (k : ℕ). v * k) w)) q)

  above_are : (limit i : ℕ) → ((c : ℕ) → 0 < row → Limits limit (row - 1) c) → above_there s e limit i ≡ above_has has row col i
  above_are limit i same = go (dec_lt 0 row)
    where
      go : Dec (0 < row) → above_there s e limit i ≡ above_has has row col i
      go (yes h) =
          ap (λ (b : Bool). b && ltb i e.cols && ltb (number_by s e.above.0 (e.col.0 + i * e.across)) limit)
          (some_before row e.down e.row.0 o.row_is o.downs h)
          ∙ both_same (ap (ltb i) o.cols_are ∙ past col i width)
          (ap₂ (λ (y x : ℕ). ltb (number_by s y x) limit) o.above_is
          (ap (λ (x : ℕ). x + i * e.across) o.col_is ∙ sym (add-mul col i e.across)) ∙ sym (same (col + i) h))
          ∙ sym (ap (λ (b : Bool). b && ltb (col + i) width && there (row - 1) (col + i)) (lt-ltb (row - 1) height (omega arith)))
          ∙ sym (t.inside (row - 1) (col + i))
          ∙ sym (ap (λ (z : ℤ). has z (pos (col + i))) (up row h))
      go (no h) =
          let z : row ≡ 0 = omega arith in
          ap (λ (b : Bool). b && ltb i e.cols && ltb (number_by s e.above.0 (e.col.0 + i * e.across)) limit)
          (none_before row e.down e.row.0 o.row_is z)
          ∙ sym (ap (λ (r : ℕ). has (pos r -ℤ pos 1) (pos (col + i))) z ∙ t.top 0 (pos (col + i)))

  left_are : (limit i : ℕ) → ((r : ℕ) → row ≤ r → Limits limit r (col - 1)) → left_there s e limit i ≡ left_has has row col i
  left_are limit i same = go (dec_lt 0 col)
    where
      go : Dec (0 < col) → left_there s e limit i ≡ left_has has row col i
      go (yes h) =
          ap (λ (b : Bool). b && ltb i e.rows && ltb (number_by s (e.row.0 + i * e.down) e.left.0) limit)
          (some_before col e.across e.col.0 o.col_is o.acrosses h)
          ∙ both_same (ap (ltb i) o.rows_are ∙ past row i height)
          (ap₂ (λ (y x : ℕ). ltb (number_by s y x) limit) (ap (λ (y : ℕ). y + i * e.down) o.row_is ∙ sym (add-mul row i e.down))
          o.left_is ∙ sym (same (row + i) (omega arith)))
          ∙ sym (middle (ltb (row + i) height) (there (row + i) (col - 1)) (lt-ltb (col - 1) width (omega arith)))
          ∙ sym (t.inside (row + i) (col - 1))
          ∙ sym (ap (λ (z : ℤ). has (pos (row + i)) z) (up col h))
        where
          middle : (a c : Bool) {b : Bool} → b ≡ true → (a && b && c) ≡ (a && c)
          middle true c q = ap (λ (x : Bool). x && c) q
          middle false c q = refl
      go (no h) =
          let z : col ≡ 0 = omega arith in
          ap (λ (b : Bool). b && ltb i e.rows && ltb (number_by s (e.row.0 + i * e.down) e.left.0) limit)
          (none_before col e.across e.col.0 o.col_is z)
          ∙ sym (ap (λ (c : ℕ). has (pos (row + i)) (pos c -ℤ pos 1)) z ∙ t.side (row + i) 0)

  corner_is : (limit : ℕ) → ((c : ℕ) → 0 < row → Limits limit (row - 1) c) → corner_there s e limit ≡ corner_has has row col
  corner_is limit same = go (dec_lt 0 row) (dec_lt 0 col)
    where
      go : Dec (0 < row) → Dec (0 < col) → corner_there s e limit ≡ corner_has has row col
      go (yes h) (yes k) =
          ap₂ (λ (a b : Bool). a && b && ltb (number_by s e.above.0 e.left.0) limit)
          (some_before row e.down e.row.0 o.row_is o.downs h)
          (some_before col e.across e.col.0 o.col_is o.acrosses k)
          ∙ ap₂ (λ (y x : ℕ). ltb (number_by s y x) limit) o.above_is o.left_is
          ∙ sym (same (col - 1) h)
          ∙ sym (ap₂ (λ (a b : Bool). a && b && there (row - 1) (col - 1)) (lt-ltb (row - 1) height (omega arith))
          (lt-ltb (col - 1) width (omega arith)))
          ∙ sym (t.inside (row - 1) (col - 1))
          ∙ sym (ap₂ has (up row h) (up col k))
      go (yes h) (no k) =
          let z : col ≡ 0 = omega arith in
          ap₂ (λ (a b : Bool). a && b && ltb (number_by s e.above.0 e.left.0) limit)
          (some_before row e.down e.row.0 o.row_is o.downs h) (none_before col e.across e.col.0 o.col_is z)
          ∙ sym (ap₂ (λ (r : ℤ) (c : ℕ). has r (pos c -ℤ pos 1)) (up row h) z ∙ t.side (row - 1) 0)
      go (no h) k =
          let z : row ≡ 0 = omega arith in
          ap (λ (a : Bool). a && ltb 0 e.col.0 && ltb (number_by s e.above.0 e.left.0) limit)
          (none_before row e.down e.row.0 o.row_is z)
          ∙ sym (ap (λ (r : ℕ). has (pos r -ℤ pos 1) (pos col -ℤ pos 1)) z ∙ t.top 0 (pos col -ℤ pos 1))

  -- so are the reaches by the two, with a limit for the corner and the row above, and one for the left column
  pub reach_is : (n high low : ℕ) → ((c : ℕ) → 0 < row → Limits high (row - 1) c) → ((r : ℕ) → row ≤ r → Limits low r (col - 1))
      → edges_of s e n high low ≡ reach_by 0 has row col n
  reach_is n high low up_same left-same =
      let corner = corner_is high up_same in
      let above : above_there s e high ≡ above_has has row col = fun_ext (λ i. above_are high i up_same) in
      let left : left_there s e low ≡ left_has has row col = fun_ext (λ i. left_are low i left-same) in
      λ i. record { no = 0; corner = corner i; above = leading (above i) (2 * n + 1); left = leading (left i) (2 * n + 1) }

-- Luma: the plane is the grid
abbrev pub luma_site : LumaBlock → Site
luma_site b =
    record {
      row = b.row;
      col = b.col;
      above = record { 0 = b.row.0 - 1 };
      left = record { 0 = b.col.0 - 1 };
      down = 1;
      across = 1;
      rows = b.picture.height - b.row.0;
      cols = b.picture.width - b.col.0;
    }

luma_over : (b : LumaBlock) → Over (luma_site b) b.picture.height b.picture.width b.row.0 b.col.0
luma_over b =
    record {
      downs = inl refl;
      acrosses = inl refl;
      row_is = sym (mul-one b.row.0);
      col_is = sym (mul-one b.col.0);
      above_is = sym (mul-one (b.row.0 - 1));
      left_is = sym (mul-one (b.col.0 - 1));
      rows_are = refl;
      cols_are = refl;
    }

pub luma_sited : (b : LumaBlock) → LumaFine b → (s : Shifts) (e : Site) → s ≡ shifts_of b.picture → e ≡ luma_site b
    → Sited s e b.picture.unit b.n
luma_sited b f s e es ee =
    subst (λ (m : Site). Sited s m b.picture.unit b.n) (sym ee)
    (sited b.picture s (luma_site b) b.picture.height b.picture.width b.row.0 b.col.0 b.n f.good es f.size
    f.placed (luma_over b)
    (omega (arith, f.good.tall.high)) (omega (arith, f.good.wide.high)))

luma_tells : (b : LumaBlock) → TellsEach (luma_has b) b.picture.height b.picture.width
    (λ r c. ltb (number_at b.picture r c) (number_at b.picture b.row.0 b.col.0))
unfolding before
luma_tells b = record { inside = λ r c. refl; top = λ r c. refl; side = λ r c. refl }

-- the code's rule over the luma plane is the luma rule
pub luma_edges : (b : LumaBlock) → LumaFine b → (s : Shifts) (e : Site) (cur : ℕ) (r : Reached) → s ≡ shifts_of b.picture → e ≡ luma_site b
    → cur ≡ number_at b.picture b.row.0 b.col.0 → r ≡ edges_of s e b.n cur cur → r
    ≡ reach_by 0 (luma_has b) b.row.0 b.col.0 b.n
unfolding number_at min_tb_addr_zs
luma_edges b f s e cur r es ee ec er =
    let p = b.picture in
    let k = number_at p b.row.0 b.col.0 in
    let some = size_small b.n f.size in
    let same : (y x : ℕ) → ltb (number_at p y x) k ≡ ltb (number_by (shifts_of p) (y * 1) (x * 1)) k = λ y x. ap₂
    (λ (v u : ℕ). ltb (number_at p v u) k) (sym (mul-one y)) (sym (mul-one x)) in
    er
    ∙ ap (λ (j : ℕ). edges_of s e b.n j j) ec
    ∙ ap₂ (λ (t : Shifts) (m : Site). edges_of t m b.n k k) es ee
    ∙ reach_is (luma_tells b) (shifts_of p) (luma_site b) b.row.0 b.col.0 (omega (arith, f.placed.row_in))
    (omega (arith, f.placed.col_in)) (luma_over b) b.n k k
    (λ c h. same (b.row.0 - 1) c) (λ y h. same y (b.col.0 - 1))

-- Chroma
pub record ChromaFine (b : ChromaBlock) : Type 0 where
  pub size : Size b.n
  pub good : Good b.picture
  pub placed : InPlane (chroma_height b) (chroma_width b) b.row.0 b.col.0 b.n
  pub cur_row : b.cur_luma_row.0 < b.picture.height
  pub cur_col : b.cur_luma_col.0 < b.picture.width

pub chroma_fine : (b : ChromaBlock) → chroma_reach_no b ≡ 0 → ChromaFine b
unfolding chroma_reach_no
chroma_fine b e =
    let p = b.picture in
    let r = b.cur_luma_row.0 in
    let c = b.cur_luma_col.0 in
    let i = in_plane (chroma_height b) (chroma_width b) b.row.0 b.col.0 b.n in
    let k = leb b.n (p.ctu / sub_width b.format) in
    let s = passed (size_ok b.n) _ 2 (omega arith) e in
    let q = passed (picture_ok p && has_chroma b.format) _ 4 (omega arith) s.1 in
    let t = passed (chroma_place_ok b) 0 6 (omega arith) q.1 in
    let w = both_true (i && k) (place_ok p r c) t.0 in
    let u = both_true i k w.0 in
    let m = both_true (unit_ok p.unit && ltb r p.height) (ltb c p.width) w.1 in
    let n = both_true (unit_ok p.unit) (ltb r p.height) m.0 in
    let f = picture-of p (both_true (picture_ok p) (has_chroma b.format) q.0).0 in
    record {
      size = size_of b.n s.0;
      good = record { wide = f.0; tall = f.1.0; ctus = f.1.1; units = unit_of p.unit n.0 };
      placed = in-plane (chroma_height b) (chroma_width b) b.row.0 b.col.0 b.n u.0;
      cur_row = ltb-true r p.height n.1;
      cur_col = ltb-true c p.width m.1;
    }

-- the code's test of the block
pub block_is : (p : Picture) (f : ChromaFormat) (row col n h w k : ℕ) (t : Bool) → h ≡ p.height / sub_height f → w ≡ p.width / sub_width f
    → k ≡ p.ctu / sub_width f
    → t ≡ in_plane h w row col n → (t && leb n k) ≡ chroma_block_ok p f row col n
block_is p f row col n h w k t eh ew ek et = both_same (et ∙ ap₂ (λ (x y : ℕ). in_plane x y row col n) eh ew) (ap (leb n) ek)

-- the block over the luma grid, by its format's subsampling
abbrev pub chroma_site : ChromaBlock → Site
chroma_site b =
    record {
      row = luma_row b.format b.row;
      col = luma_col b.format b.col;
      above = luma_row b.format (record { 0 = b.row.0 - 1 });
      left = luma_col b.format (record { 0 = b.col.0 - 1 });
      down = sub_height b.format;
      across = sub_width b.format;
      rows = chroma_height b - b.row.0;
      cols = chroma_width b - b.col.0;
    }

-- a place in the picture is held as it is
held_is : (step v : ℕ) → Subsampling step → v ≤ 4096 → saturated (step * v) ≡ v * step
held_is step v t h = ⊎_elim (at 1 (omega arith)) (at 2 (omega arith)) t
  where
    at : (k : ℕ) → saturated (k * v) ≡ v * k → step ≡ k → saturated (step * v) ≡ v * step
    at k q e = subst (λ (x : ℕ). saturated (x * v) ≡ v * x) (sym e) q

pub chroma_over : (b : ChromaBlock) → ChromaFine b → Over (chroma_site b) (chroma_height b) (chroma_width b) b.row.0 b.col.0
chroma_over b f =
    let h = step_height b.format in
    let w = step_width b.format in
    let low : b.row.0 ≤ 4096 = omega (
      arith,
      f.placed.row_in,
      f.good.tall.high,
      div-le_self b.picture.height
          (sub_height b.format),
    ) in
    let far : b.col.0 ≤ 4096 = omega (
      arith,
      f.placed.col_in,
      f.good.wide.high,
      div-le_self b.picture.width
          (sub_width b.format),
    ) in
    record {
      downs = h;
      acrosses = w;
      row_is = held_is (sub_height b.format) b.row.0 h low;
      col_is = held_is (sub_width b.format) b.col.0 w far;
      above_is = held_is (sub_height b.format) (b.row.0 - 1) h (omega arith);
      left_is = held_is (sub_width b.format) (b.col.0 - 1) w (omega arith);
      rows_are = refl;
      cols_are = refl;
    }

pub chroma_sited : (b : ChromaBlock) → ChromaFine b → (s : Shifts) (e : Site) → s ≡ shifts_of b.picture → e ≡ chroma_site b
    → Sited s e b.picture.unit b.n
chroma_sited b f s e es ee =
    subst (λ (m : Site). Sited s m b.picture.unit b.n) (sym ee)
    (sited b.picture s (chroma_site b) (chroma_height b) (chroma_width b) b.row.0 b.col.0 b.n f.good es f.size
    f.placed (chroma_over b f)
    (omega (arith, f.good.tall.high, div-mul-le_self b.picture.height (sub_height b.format)))
    (omega (arith, f.good.wide.high, div-mul-le_self b.picture.width (sub_width b.format))))
