-- A picture that no door refuses, as facts on its numbers, and the shifts that the code goes by. Assumes nothing.
use Rattle.std.specs.Prelude.{◌≡◌, refl, ◌&&◌, ◌⊎◌, ℕ, ◌+◌, ◌-◌, ◌*◌, ◌/◌, ◌^◌, ◌≤◌, ◌<◌, ltb}
use Rattle.std.proofs.Common.{sym, ap, ap₂, ◌∙◌, subst, ⊎_elim, div-lt_iff_lt-mul, le-div_iff_mul-le, mul_comm, mul-le-mul, arith, ltb-true}
use Rattle.std.proofs.Math.Nat.{lt-div-mul-add, div-eq_of_eq-mul_left, pow-le-pow_right}
use Rattle.laws.specs.Choose.{both_true, passed}
use Rattle.h265.specs.Notation.{log2, halvings}
use Rattle.h265.specs.Order.{width_in_ctbs, z_scan, min_tb_addr_zs}
use Rattle.domain.specs.Domain.{side_ok, ctu_ok, unit_ok}
use Rattle.domain.specs.Facts.{Ctu, Unit, Side, ctu_of, unit_of, side-of}
use Rattle.fmt.specs.declared.LumaRow.{LumaRow}
use Rattle.fmt.specs.declared.LumaCol.{LumaCol}
use Rattle.order.specs.cells.Row.{ctus_of}
use Rattle.order.specs.declared.Picture.{Picture}
use Rattle.order.specs.declared.Shifts.{Shifts}
use Rattle.order.specs.Order.{grid_of, number_at, picture_ok, place_ok, order_no}
use Rattle.order.specs.CellWalk.{cell_no, cell_bound, cell_zs}

pub record Good (p : Picture) : Type 0 where
  pub wide : Side p.width
  pub tall : Side p.height
  pub ctus : Ctu p.ctu
  pub units : Unit p.unit

-- a CTU or a unit
abbrev pub Power : ℕ → Type 0
Power side = Ctu side ⊎ Unit side

-- a call that is not refused
pub good_of : (p : Picture) (row : LumaRow) (col : LumaCol) → order_no p row col ≡ 0 → Good p × ((row.0 < p.height) × (col.0 < p.width))
unfolding order_no
good_of p row col e =
    let a = passed (picture_ok p) _ 4 (omega arith) e in
    let b = passed (place_ok p row.0 col.0) 0 6 (omega arith) a.1 in
    let q = both_true (side_ok p.width && side_ok p.height) (ctu_ok p.ctu) a.0 in
    let s = both_true (side_ok p.width) (side_ok p.height) q.0 in
    let m = both_true (unit_ok p.unit && ltb row.0 p.height) (ltb col.0 p.width) b.0 in
    let n = both_true (unit_ok p.unit) (ltb row.0 p.height) m.0 in (
      record {
        wide = side-of p.width s.0;
        tall = side-of p.height s.1;
        ctus = ctu_of p.ctu q.1;
        units = unit_of
            p.unit n.0;
      },
      (ltb-true row.0 p.height n.1, ltb-true col.0 p.width m.1),
    )

-- a fact at each CTU and unit holds of a good picture
pub six : (P : ℕ → ℕ → Type 0) (ctu unit : ℕ) → P 16 4 → P 16 8 → P 32 4 → P 32 8 → P 64 4 → P 64 8 → Ctu ctu → Unit unit → P ctu unit
six P ctu unit a b c d e f g h =
    ⊎_elim
    (λ p. ⊎_elim (λ q. at p q a) (λ q. at p q b) h)
    (⊎_elim (λ p. ⊎_elim (λ q. at p q c) (λ q. at p q d) h) (λ p. ⊎_elim (λ q. at p q e) (λ q. at p q f) h))
    g
  where
    at : {m n : ℕ} → ctu ≡ m → unit ≡ n → P m n → P ctu unit
    at {m} p q w = subst (λ (v : ℕ). P v unit) (sym p) (subst (λ (v : ℕ). P m v) (sym q) w)

-- halvings from the CTU to the cell
abbrev pub levels : Picture → ℕ
levels p = log2 p.ctu - log2 p.unit

-- what holds of the six
abbrev Bounds : ℕ → ℕ → Type 0
Bounds ctu unit = (log2 ctu - log2 unit ≤ 4) × (log2 unit ≤ log2 ctu) × (log2 ctu ≤ 6) × (4 ≤ unit) × (unit ≤ 8) × (16 ≤ ctu) × (ctu ≤ 64)
    × (log2 unit ≤ 3)

pub record Sized (ctu unit : ℕ) : Type 0 where
  pub unit_is : 2 ^ log2 unit ≡ unit
  pub ctu_is : 2 ^ log2 ctu ≡ ctu
  pub split : unit * 2 ^ (log2 ctu - log2 unit) ≡ ctu
  pub bounds : Bounds ctu unit

pub sized : {p : Picture} → Good p → Sized p.ctu p.unit
unfolding halvings
sized {p} g =
    six Sized p.ctu p.unit
    (at 16 4 refl refl refl (omega arith))
    (at 16 8 refl refl refl (omega arith))
    (at 32 4 refl refl refl (omega arith))
    (at 32 8 refl refl refl (omega arith))
    (at 64 4 refl refl refl (omega arith))
    (at 64 8 refl refl refl (omega arith))
    g.ctus g.units
  where
    at : (c u : ℕ) → 2 ^ log2 u ≡ u → 2 ^ log2 c ≡ c → u * 2 ^ (log2 c - log2 u) ≡ c → Bounds c u → Sized c u
    at c u a b d e = record { unit_is = a; ctu_is = b; split = d; bounds = e }

-- CTUs in a row: the width over the CTU, rounded up
abbrev pub ctus_in : Picture → ℕ
ctus_in p = width_in_ctbs (grid_of p)

pub ctus_are : {p : Picture} → Good p → ctus_in p ≡ (p.width + p.ctu - 1) / p.ctu
ctus_are {p} g = ap (λ (c : ℕ). (p.width + c - 1) / c) (sized g).ctu_is

-- as the code finds them
ctus_found : {p : Picture} → Good p → ctus_of p.width p.ctu ≡ (p.width + p.ctu - 1) / p.ctu
unfolding ctus_of
ctus_found {p} g = ⊎_elim (λ e. rw e) (⊎_elim (λ e. rw e) (λ e. rw e)) g.ctus

-- they cover the row, and are from 1 to 256
pub ctus_cover : {p : Picture} → Good p → (p.width ≤ ctus_in p * p.ctu) × (ctus_in p ≤ 256) × (1 ≤ ctus_in p)
ctus_cover {p} g =
    let s = sized g in
    let e = ctus_are g in
    let pos : 0 < p.ctu = omega arith in
    let cover : p.width ≤ (p.width + p.ctu - 1) / p.ctu * p.ctu = omega (arith, lt-div-mul-add {a = p.width + p.ctu - 1} pos) in
    let few : (p.width + p.ctu - 1) / p.ctu < 257 = (div-lt_iff_lt-mul pos).1 (omega (arith, g.wide.high)) in
    let many : 1 ≤ (p.width + p.ctu - 1) / p.ctu = (le-div_iff_mul-le pos).1 (omega (arith, g.wide.low)) in
    rw e (cover, omega arith, many)

-- the number by halving
pub number_cell : {p : Picture} → Good p → (row col : ℕ) → number_at p row col ≡ cell_no (levels p) (ctus_in p) (row / p.unit) (col / p.unit)
unfolding number_at min_tb_addr_zs
number_cell {p} g row col =
    let u = (sized g).unit_is in
    ap₂ (λ (a b : ℕ). z_scan (levels p) (ctus_in p) (col / a) (row / b)) u u
    ∙ sym (cell_zs (levels p) (ctus_in p) (row / p.unit) (col / p.unit))

-- the cells of a place in the picture lie in its CTUs
pub cell_in : {p : Picture} → Good p → {row col : ℕ} → row < p.height → col < p.width
    → (row / p.unit < 256 * 2 ^ levels p) × (col / p.unit < ctus_in p * 2 ^ levels p)
cell_in {p} g {row} {col} hr hc =
    let s = sized g in
    let v = ctus_cover g in
    let pos : 0 < p.unit = omega arith in (
      (div-lt_iff_lt-mul pos).1 (omega (arith, g.tall.high)),
      (div-lt_iff_lt-mul pos).1 (omega (arith, ap (λ (x : ℕ). ctus_in p * x) s.split)),
    )

-- numbers are small
pub number_small : {p : Picture} → Good p → {row col : ℕ} → row < p.height → col < p.width → number_at p row col < 2 ^ 25
number_small {p} g {row} {col} hr hc =
    let s = sized g in
    let v = ctus_cover g in
    let c = cell_in g hr hc in
    let below = cell_bound (levels p) 256 (ctus_in p) c.0 c.1 in
    let wide : 256 * ctus_in p ≤ 256 * 256 = omega arith in
    let deep : 4 ^ levels p ≤ 4 ^ 4 = pow-le-pow_right (omega arith) s.bounds.0 in
    let most = mul-le-mul wide deep in
    omega (arith, number_cell g row col)

-- what the code goes by
abbrev pub shifts_of : Picture → Shifts
shifts_of p = record { unit = log2 p.unit; levels = levels p; cells = 2 ^ levels p; ctus = ctus_in p }

-- the code's own way to them
pub shifts_are : {p : Picture} → Good p → (a b c : ℕ) → a ≡ log2 p.unit → b ≡ log2 p.ctu → c ≡ ctus_of p.width p.ctu
    → ◌≡◌ {A = Shifts} (record { unit = a; levels = b - a; cells = p.ctu / 2 ^ a; ctus = c }) (shifts_of p)
shifts_are {p} g a b c ea eb ec =
    let s = sized g in
    let pos : 0 < p.unit = omega arith in
    let cells : p.ctu / 2 ^ a ≡ 2 ^ levels p = ap (λ (k : ℕ). p.ctu / 2 ^ k) ea ∙ ap (λ (u : ℕ). p.ctu / u) s.unit_is
    ∙ div-eq_of_eq-mul_left pos (sym s.split ∙ mul_comm p.unit (2 ^ levels p)) in
    let ctus : c ≡ ctus_in p = ec ∙ ctus_found g ∙ sym (ctus_are g) in
    let levels : b - a ≡ log2 p.ctu - log2 p.unit = ap₂ (λ (x y : ℕ). x - y) eb ea in
    λ i. record { unit = ea i; levels = levels i; cells = cells i; ctus = ctus i }

-- a number found by the shifts is the place's own
pub number_of : (p : Picture) (s : Shifts) (v row col : ℕ) → s ≡ shifts_of p → v
    ≡ z_scan s.levels s.ctus (col / 2 ^ s.unit) (row / 2 ^ s.unit) → v ≡ number_at p row col
unfolding number_at min_tb_addr_zs
number_of p s v row col e h = h ∙ ap (λ (t : Shifts). z_scan t.levels t.ctus (col / 2 ^ t.unit) (row / 2 ^ t.unit)) e

-- bounds that these keep
pub record Small (s : Shifts) : Type 0 where
  pub unit : s.unit ≤ 3
  pub levels : s.levels ≤ 4
  pub cells : s.cells ≡ 2 ^ s.levels
  pub ctus : s.ctus ≤ 256

pub small : {p : Picture} → Good p → Small (shifts_of p)
small {p} g =
    let s = sized g in
    let v = ctus_cover g in
    record { unit = s.bounds.7; levels = s.bounds.0; cells = refl; ctus = v.1 }

pub small_of : {p : Picture} → Good p → (s : Shifts) → s ≡ shifts_of p → Small s
small_of g s e = subst Small (sym e) (small g)
