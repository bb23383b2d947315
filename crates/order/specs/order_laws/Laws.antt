-- The laws of the decode order over the samples of a good picture, and where 6.4.1 and document 01 part. Assumes nothing.
use Rattle.std.specs.Prelude.{◌≡◌, refl, Bool, true, false, not, ◌&&◌, ◌||◌, ◌⊎◌, ℕ, ◌+◌, ◌-◌, ◌*◌, ◌/◌, ◌%◌, ◌^◌, ◌≤◌, ◌<◌, eqb, pos}
use Rattle.std.proofs.Math.Path.{sym, ap}
use Rattle.std.proofs.Common.{ap₂, ◌∙◌, inr, ⊎_elim, le_trans, le-div_iff_mul-le, div-mul-le_self, div-add-mod', div-lt_iff_lt-mul, mod-lt, mul_comm, arith, pow_pos}
use Rattle.std.proofs.Math.Nat.{div-div-eq-div-mul, div-eq_of_eq-mul_left}
use Rattle.std.proofs.Math.Decide.{dec_lt, ℕ_discrete}
use Rattle.std.proofs.Math.Arith.{digits_div, mod-mul}
use Rattle.std.proofs.Math.Dec.{ltb}
use borrow.Author.Tests.{lt-ltb, le-ltb, ltb-true, eq-eqb, ne_eqb}
use Rattle.laws.specs.Choose.{both_true}
use Rattle.h265.specs.Order.{interleaved, z_scan}
use Rattle.h265.specs.Availability.{available}
use Rattle.domain.specs.Facts.{Side}
use Rattle.fmt.specs.Fmt.{sub_width, sub_height, Subsampling, step_width, step_height}
use Rattle.fmt.specs.declared.LumaRow.{LumaRow}
use Rattle.fmt.specs.declared.LumaCol.{LumaCol}
use Rattle.order.specs.declared.Picture.{Picture}
use Rattle.order.specs.declared.ChromaBlock.{ChromaBlock}
use Rattle.order.specs.Order.{grid_of, number_at, before, available_to}
use Rattle.order.specs.Reach.{chroma_has}
use Rattle.order.specs.CellWalk.{cell_no, row_lt, col_lt, cell_inj, cell_zs, run_in, run_only}
use Rattle.order.specs.cells.Spread.{interleaved_spread}
use Rattle.order.specs.Spread.{spread_mod}
use Rattle.order.specs.Good.{Good, sized, levels, ctus_in, ctus_are, ctus_cover, cell_in, number_cell}

pub div_mono : (u : ℕ) {a b : ℕ} → 0 < u → a ≤ b → a / u ≤ b / u
div_mono u {a} {b} h l = (le-div_iff_mul-le h).1 (le_trans (div-mul-le_self a u) l)

-- a function that grows strictly grows
weak : (f : ℕ → ℕ) (a b : ℕ) → (a < b → f a < f b) → a ≤ b → f a ≤ f b
weak f a b up h = go (dec_lt a b)
  where
    go : Dec (a < b) → f a ≤ f b
    go (yes l) = omega (arith, up l)
    go (no n) =
        let e : a ≡ b = omega arith in
        omega (arith, ap f e)

-- tests of two numbers that differ
not_greater : (a b : ℕ) → (a ≡ b → ⊥) → not (ltb b a) ≡ ltb a b
not_greater a b h = go (dec_lt a b)
  where
    go : Dec (a < b) → not (ltb b a) ≡ ltb a b
    go (yes l) = simp (le-ltb b a (omega arith), lt-ltb a b l)
    go (no n) =
        let m : b < a = ⊎_elim (λ (l : a < b). absurd (n l)) (λ (l : b < a). l) (apart (dec_lt b a)) in
        simp (lt-ltb b a m, le-ltb a b (omega arith))
      where
        apart : Dec (b < a) → (a < b) ⊎ (b < a)
        apart (yes l) = inr l
        apart (no k) = absurd (h (omega arith))

-- the chroma rule's 'earlier, or in the current cell and above the block' is 'not later' above the block, and off that cell
no_later : (nb cur r row : ℕ) → (r < row) ⊎ (nb ≡ cur → ⊥) → (ltb nb cur || eqb nb cur && ltb r row) ≡ not (ltb cur nb)
no_later nb cur r row side = go (dec_lt nb cur) (ℕ_discrete nb cur)
  where
    go : Dec (nb < cur) → Dec (nb ≡ cur) → (ltb nb cur || eqb nb cur && ltb r row) ≡ not (ltb cur nb)
    go (yes l) _ = simp (lt-ltb nb cur l, le-ltb cur nb (omega arith))
    go (no l) (no e) = simp (le-ltb nb cur (omega arith), ne_eqb nb cur e, lt-ltb cur nb (omega arith))
    go (no l) (yes e) =
        ⊎_elim
        (λ (h : r < row). simp (le-ltb nb cur (omega arith), eq-eqb nb cur e, lt-ltb r row h, le-ltb cur nb (omega arith)))
        (λ (h : nb ≡ cur → ⊥). absurd (h e)) side

-- a sample's tests in either order; the last one is asked of a sample whose column is in the plane
columns_first : (a b : Bool) {c c' : Bool} → (b ≡ true → c ≡ c') → (a && b && c) ≡ (b && a && c')
columns_first true true h = h refl
columns_first true false h = refl
columns_first false true h = refl
columns_first false false h = refl

-- a sample is in its plane where the luma sample that it stands for is in the picture
in_its_plane : (v side step : ℕ) → Side side → Subsampling step → ltb v (side / step) ≡ ltb (v * step) side
in_its_plane v side step s t =
    ⊎_elim (at 1 (λ l. omega arith) (λ l. omega arith)) (at 2 (λ l. omega (arith, s.whole)) (λ l. omega arith)) t
  where
    at : (k : ℕ) → (v * k < side → v < side / k) → (side ≤ v * k → side / k ≤ v) → step ≡ k → ltb v (side / step) ≡ ltb (v * step) side
    at k in-it past e = rw e (go (dec_lt (v * k) side))
      where
        go : Dec (v * k < side) → ltb v (side / k) ≡ ltb (v * k) side
        go (yes l) = lt-ltb v (side / k) (in-it l) ∙ sym (lt-ltb (v * k) side l)
        go (no n) = let l : side ≤ v * k = omega arith in le-ltb v (side / k) (past l) ∙ sym (le-ltb (v * k) side l)

module _ {p : Picture} (g : Good p) where
  unit_pos : 0 < p.unit
  unit_pos = omega (arith, (sized g).bounds)

  -- the number grows strictly down a column of cells, and along a row of cells
  pub row_grows : (col row row' : ℕ) → row / p.unit < row' / p.unit → number_at p row col < number_at p row' col
  row_grows col row row' h =
      omega (arith, number_cell g row col, number_cell g row' col, row_lt (levels p) (ctus_in p) (col / p.unit) (ctus_cover g).2 h)

  pub col_grows : (row col col' : ℕ) → col / p.unit < col' / p.unit → number_at p row col < number_at p row col'
  col_grows row col col' h =
      omega (arith, number_cell g row col, number_cell g row col', col_lt (levels p) (ctus_in p) (row / p.unit) h)

  -- so over samples it never falls
  pub row_rises : (col : ℕ) {row row' : ℕ} → row ≤ row' → number_at p row col ≤ number_at p row' col
  row_rises col {row} {row'} h =
      omega (
        arith,
        number_cell g row col,
        number_cell g row' col,
        weak (λ (y : ℕ). cell_no (levels p) (ctus_in p) y (col / p.unit))
            (row / p.unit) (row' / p.unit) (row_lt (levels p) (ctus_in p) (col / p.unit) (ctus_cover g).2) (div_mono p.unit unit_pos h),
      )

  pub col_rises : (row : ℕ) {col col' : ℕ} → col ≤ col' → number_at p row col ≤ number_at p row col'
  col_rises row {col} {col'} h =
      omega (
        arith,
        number_cell g row col,
        number_cell g row col',
        weak (cell_no (levels p) (ctus_in p) (row / p.unit)) (col / p.unit)
            (col' / p.unit) (col_lt (levels p) (ctus_in p) (row / p.unit)) (div_mono p.unit unit_pos h),
      )

  -- two cells of the picture have different numbers
  pub same_cell : (row col row' col' : ℕ) → col < p.width → col' < p.width → number_at p row col ≡ number_at p row' col'
      → (row / p.unit ≡ row' / p.unit) × (col / p.unit ≡ col' / p.unit)
  same_cell row col row' col' h h' e =
      let low : 0 < p.height = omega (arith, g.tall.low) in
      cell_inj (levels p) (ctus_in p) (cell_in g low h).1 (cell_in g low h').1 (sym (number_cell g row col) ∙ e ∙ number_cell g row' col')

  -- availability is closed toward the picture's origin, in a column and in a row
  pub before_up : (limit col row row' : ℕ) → row ≤ row' → before p limit (pos row') (pos col) ≡ true → before p limit (pos row) (pos col)
      ≡ true
  unfolding before
  before_up limit col row row' h e =
      let a = both_true (ltb row' p.height && ltb col p.width) (ltb (number_at p row' col) limit) e in
      let b = both_true (ltb row' p.height) (ltb col p.width) a.0 in
      simp (
        lt-ltb row p.height (omega (arith, ltb-true row' p.height b.0)),
        b.1,
        lt-ltb (number_at p row col) limit
            (omega (arith, ltb-true (number_at p row' col) limit a.1, row_rises col h)),
      )

  pub before_left : (limit row col col' : ℕ) → col ≤ col' → before p limit (pos row) (pos col') ≡ true
      → before p limit (pos row) (pos col) ≡ true
  unfolding before
  before_left limit row col col' h e =
      let a = both_true (ltb row p.height && ltb col' p.width) (ltb (number_at p row col') limit) e in
      let b = both_true (ltb row p.height) (ltb col' p.width) a.0 in
      simp (
        b.0,
        lt-ltb col p.width (omega (arith, ltb-true col' p.width b.1)),
        lt-ltb (number_at p row col) limit
            (omega (arith, ltb-true (number_at p row col') limit a.1, col_rises row h)),
      )

  -- document 01's words: the CTU's number in raster order times the cells of a CTU, plus the Morton number of the cell inside it
  outer : (k v : ℕ) → p.unit * 2 ^ k ≡ p.ctu → v / p.unit / 2 ^ k ≡ v / p.ctu
  outer k v e = div-div-eq-div-mul v p.unit (2 ^ k) ∙ ap (λ (u : ℕ). v / u) e

  inner : (k v : ℕ) → p.unit * 2 ^ k ≡ p.ctu → v % p.ctu / p.unit ≡ v / p.unit % 2 ^ k
  inner k v e =
      let m = mod-mul v {m = 2 ^ k} {c = p.unit} (pow_pos k) unit_pos in
      ap (λ (c : ℕ). v % c / p.unit) (sym e ∙ mul_comm p.unit (2 ^ k)) ∙ ap (λ (u : ℕ). u / p.unit) m
      ∙ digits_div (v / p.unit % 2 ^ k) (mod-lt v unit_pos)

  low_bits : (k x y : ℕ) → interleaved k (x % 2 ^ k) (y % 2 ^ k) ≡ interleaved k x y
  low_bits k x y = rw (interleaved_spread k (x % 2 ^ k) (y % 2 ^ k), spread_mod k x, spread_mod k y) (sym (interleaved_spread k x y))

  pub as_01 : (row col : ℕ) → number_at p row col
      ≡ (row / p.ctu * ((p.width + p.ctu - 1) / p.ctu) + col / p.ctu) * 4 ^ levels p + interleaved (levels p)
      (col % p.ctu / p.unit) (row % p.ctu / p.unit)
  as_01 row col =
      let k = levels p in
      let s = (sized g).split in
      let x = col / p.unit in
      let y = row / p.unit in
      number_cell g row col ∙ cell_zs k (ctus_in p) y x ∙ text k x y
      ∙ ap₂ (λ (a b : ℕ). (a * ctus_in p + b) * 4 ^ k + interleaved k x y) (outer k row s) (outer k col s)
      ∙ ap (λ (w : ℕ). (row / p.ctu * w + col / p.ctu) * 4 ^ k + interleaved k x y) (ctus_are g)
      ∙ ap (λ (m : ℕ). (row / p.ctu * ((p.width + p.ctu - 1) / p.ctu) + col / p.ctu) * 4 ^ k + m)
      (sym (ap₂ (interleaved k) (inner k col s) (inner k row s) ∙ low_bits k x y))
    where
      text : (k x y : ℕ) → z_scan k (ctus_in p) x y ≡ (y / 2 ^ k * ctus_in p + x / 2 ^ k) * 4 ^ k + interleaved k x y
      text k x y = unfold z_scan in ap (λ (m : ℕ). (m + x / 2 ^ k) * 4 ^ k + interleaved k x y) (mul_comm (ctus_in p) (y / 2 ^ k))

  -- a block of side n at a multiple of n has exactly a run of 4^j numbers, from its own on; 2^j cells lie along it
  module _ (n j m row col r c : ℕ) (side : p.unit * 2 ^ j ≡ n) (deep : j + m ≡ levels p) (row_at : row % n ≡ 0) (col_at : col % n ≡ 0)
    where
      first_cell : (v : ℕ) → v % n ≡ 0 → v / p.unit ≡ v / n * 2 ^ j
      first_cell v e = div-eq_of_eq-mul_left unit_pos (omega (arith, div-add-mod' v n, ap (λ (u : ℕ). v / n * u) side))

      over : (v : ℕ) → v / p.unit / 2 ^ j ≡ v / n
      over v = div-div-eq-div-mul v p.unit (2 ^ j) ∙ ap (λ (u : ℕ). v / u) side

      own : number_at p row col ≡ cell_no (j + m) (ctus_in p) (row / n * 2 ^ j) (col / n * 2 ^ j)
      own = number_cell g row col ∙ ap₂ (cell_no (levels p) (ctus_in p)) (first_cell row row_at) (first_cell col col_at)
          ∙ ap (λ (k : ℕ). cell_no k (ctus_in p) (row / n * 2 ^ j) (col / n * 2 ^ j)) (sym deep)

      other : number_at p r c ≡ cell_no (j + m) (ctus_in p) (r / p.unit) (c / p.unit)
      other = number_cell g r c ∙ ap (λ (k : ℕ). cell_no k (ctus_in p) (r / p.unit) (c / p.unit)) (sym deep)

      pub block_in : r / n ≡ row / n → c / n ≡ col / n → (number_at p row col ≤ number_at p r c) × (number_at p r c < number_at p row col + 4 ^ j)
      block_in a b =
          let i = run_in j m (ctus_in p) (row / n) (col / n) (r / p.unit) (c / p.unit) (over r ∙ a) (over c ∙ b) in
          omega (arith, own, other)

      pub block_only : col / n < ctus_in p * 2 ^ m → c / n < ctus_in p * 2 ^ m → number_at p row col ≤ number_at p r c
          → number_at p r c < number_at p row col + 4 ^ j
          → (r / n ≡ row / n) × (c / n ≡ col / n)
      block_only hX hx low high =
          let u = over c in
          let i = run_only j m (ctus_in p) (row / n) (col / n) (r / p.unit) (c / p.unit) hX (omega arith) (omega (arith, own, other))
          (omega (arith, own, other)) in
          (sym (over r) ∙ i.0, sym u ∙ i.1)

  -- 6.4.1 has 'not greater', document 01 'less': in the picture they part on the block's own cell alone
  pub standard_agrees : (row : LumaRow) (col : LumaCol) (nr nc : ℕ)
      → (nc < p.width → number_at p nr nc ≡ number_at p row.0 col.0 → ⊥)
      → available_to p row col (pos nr) (pos nc) ≡ available (grid_of p) col.0 row.0 (pos nc) (pos nr)
  unfolding available before number_at
  standard_agrees row col nr nc apart =
      columns_first (ltb nr p.height) (ltb nc p.width)
      (λ e. sym (not_greater (number_at p nr nc) (number_at p row.0 col.0) (apart (ltb-true nc p.width e))))

  -- a sample above a block whose row is a multiple of the unit is not in that cell, nor is one left of a block whose column is: a luma
  -- gather never meets it, a chroma gather not in the left column
  pub own_cell_apart : (row col nr nc : ℕ) → col < p.width → nc < p.width
      → ((row % p.unit ≡ 0) × (nr < row)) ⊎ ((col % p.unit ≡ 0) × (nc < col)) → number_at p nr nc ≡ number_at p row col → ⊥
  own_cell_apart row col nr nc inside near side e =
      let s = same_cell nr nc row col near inside e in
      ⊎_elim (λ l. apart nr row l.0 l.1 s.0) (λ l. apart nc col l.0 l.1 s.1) side
    where
      apart : (a b : ℕ) → b % p.unit ≡ 0 → a < b → a / p.unit ≡ b / p.unit → ⊥
      apart a b h l q =
          let m = div-add-mod' b p.unit in
          let k : a / p.unit < b / p.unit = (div-lt_iff_lt-mul unit_pos).1 (omega arith) in
          omega arith

-- The chroma rule, of a block whose current luma place is its own, is 6.4.1's: above the block everywhere, beside it off its own cell.
pub chroma_agrees : (b : ChromaBlock) → Good b.picture → (nr nc : ℕ) → let p = b.picture in
    let down = sub_height b.format in
    let across = sub_width b.format in
    let number : ℕ → ℕ → ℕ = λ r c. number_at p (r * down) (c * across) in
    number_at p b.cur_luma_row.0 b.cur_luma_col.0 ≡ number b.row.0 b.col.0
    → (nc * across < p.width → (nr < b.row.0) ⊎ (number nr nc ≡ number b.row.0 b.col.0 → ⊥))
    → chroma_has b (pos nr) (pos nc)
    ≡ available (grid_of p) (b.col.0 * across) (b.row.0 * down) (pos (nc * across)) (pos (nr * down))
unfolding available chroma_has number_at
chroma_agrees b g nr nc own side =
    let p = b.picture in
    let down = sub_height b.format in
    let across = sub_width b.format in
    let nb = number_at p (nr * down) (nc * across) in
    ap₂ (λ (x y : Bool). x && y && (ltb nb cur || eqb nb cur && ltb nr b.row.0))
    (in_its_plane nr p.height down g.tall (step_height b.format))
    (in_its_plane nc p.width across g.wide (step_width b.format))
    ∙ ap (λ (k : ℕ). ltb (nr * down) p.height && ltb (nc * across) p.width && (ltb nb k || eqb nb k && ltb nr b.row.0)) own
    ∙ columns_first (ltb (nr * down) p.height) (ltb (nc * across) p.width)
    (λ e. no_later nb (number_at p (b.row.0 * down) (b.col.0 * across)) nr b.row.0 (side (ltb-true (nc * across) p.width e)))
  where
    cur : ℕ
    cur = number_at b.picture b.cur_luma_row.0 b.cur_luma_col.0
