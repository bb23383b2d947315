-- The edges of a block over the luma grid: the rule that the code goes by, and that samples of one group share a cell. Assumes nothing.
use Rattle.std.specs.Prelude.{◌≡◌, refl, Bool, true, ◌&&◌, ℕ, ◌+◌, ◌*◌, ◌/◌, ◌%◌, ◌^◌, ◌≤◌, ◌<◌, min, leb, ltb, eqb}
use Rattle.std.proofs.Common.{sym, ap, ap₂, ◌∙◌, ⊎_elim, mul-div_cancel, div-add-mod', mul_comm, mul_assoc, add-mul, arith, leb-true, ltb-true, eqb-true}
use Rattle.std.proofs.Math.Nat.{div-div-eq-div-mul, mul-div-mul_left, mul-add-div}
use Rattle.laws.specs.Choose.{both_true}
use Rattle.h265.specs.Order.{z_scan}
use Rattle.domain.specs.Facts.{Size, Unit, at_size}
use Rattle.fmt.specs.Fmt.{Subsampling}
use Rattle.order.specs.declared.Shifts.{Shifts}
use Rattle.order.specs.declared.Site.{Site}
use Rattle.order.specs.Answers.{Reached}
use Rattle.order.specs.Good.{Small}
use Rattle.order.specs.Reach.{leading}

-- the number of the cell that holds the luma sample at (row, col), by the shifts
abbrev pub number_by : Shifts → ℕ → ℕ → ℕ
number_by s row col = z_scan s.levels s.ctus (col / 2 ^ s.unit) (row / 2 ^ s.unit)

-- entry i of a line from a luma place on, a step further each: whether its cell has a number below a limit
abbrev pub line_there : Shifts → ℕ → ℕ → ℕ → ℕ → ℕ → ℕ → Bool
line_there s limit row col down across i = ltb (number_by s (row + i * down) (col + i * across)) limit

-- samples of a block of side n at a multiple of n, each spanning step luma samples, share cells of unit luma samples in groups
abbrev pub group_of : ℕ → ℕ → ℕ → ℕ
group_of unit step n = min (unit / step) n

pub record Group (unit step n : ℕ) : Type 0 where
  pub some : 0 < group_of unit step n
  pub few : group_of unit step n ≤ 8
  pub fit : unit ≡ step * (group_of unit step n * (unit / (step * group_of unit step n)))
  pub whole : n % group_of unit step n ≡ 0

group_test : ℕ → ℕ → ℕ → Bool
group_test unit step n =
    let g = group_of unit step n in
    ltb 0 g && leb g 8 && eqb unit (step * (g * (unit / (step * g)))) && eqb (n % g) 0

group_from : (unit step n : ℕ) → group_test unit step n ≡ true → Group unit step n
unfolding group_test
group_from unit step n e =
    let g = group_of unit step n in
    let a = both_true (ltb 0 g && leb g 8 && eqb unit (step * (g * (unit / (step * g))))) (eqb (n % g) 0) e in
    let b = both_true (ltb 0 g && leb g 8) (eqb unit (step * (g * (unit / (step * g))))) a.0 in
    let c = both_true (ltb 0 g) (leb g 8) b.0 in
    record {
      some = ltb-true 0 g c.0;
      few = leb-true g 8 c.1;
      fit = eqb-true unit (step * (g * (unit / (step * g)))) b.1;
      whole =
          eqb-true (n % g) 0 a.1;
    }

pub group : (unit step n : ℕ) → Unit unit → Subsampling step → Size n → Group unit step n
unfolding group_test
group unit step n u t s =
    ⊎_elim
    (λ p. ⊎_elim (λ q. at 4 1 p q (at_size (λ (m : ℕ). group_test 4 1 m ≡ true) refl refl refl refl n s))
    (λ q. at 4 2 p q (at_size (λ (m : ℕ). group_test 4 2 m ≡ true) refl refl refl refl n s)) t)
    (λ p. ⊎_elim (λ q. at 8 1 p q (at_size (λ (m : ℕ). group_test 8 1 m ≡ true) refl refl refl refl n s))
    (λ q. at 8 2 p q (at_size (λ (m : ℕ). group_test 8 2 m ≡ true) refl refl refl refl n s)) t)
    u
  where
    at : (a b : ℕ) → unit ≡ a → step ≡ b → group_test a b n ≡ true → Group unit step n
    at a b p q e = group_from unit step n (ap₂ (λ (x y : ℕ). group_test x y n) p q ∙ e)

-- a multiple of n is one of the group
at_group : (v n g : ℕ) → v % n ≡ 0 → n % g ≡ 0 → v ≡ v / n * (n / g) * g
at_group v n g a b =
    let p = div-add-mod' v n in
    let q = div-add-mod' n g in
    let w : v ≡ v / n * n = omega arith in
    let z : n ≡ n / g * g = omega arith in
    w ∙ ap (λ (m : ℕ). v / n * m) z ∙ sym (mul_assoc (v / n) (n / g) g)

-- from a multiple of the group on, entry i shares the cell of the first entry of its group
pub same_group : (unit step n v i : ℕ) → Unit unit → Subsampling step → Size n → v % n ≡ 0
    → (v * step + i * step) / unit ≡ (v * step + i / group_of unit step n * group_of unit step n * step) / unit
same_group unit step n v i u t s e =
    let g = group_of unit step n in
    let r = group unit step n u t s in
    let d = unit / (step * g) in
    let k = v / n * (n / g) in
    let m : v ≡ k * g = at_group v n g e r.whole in
    let pos : 0 < step = ⊎_elim (λ q. omega arith) (λ q. omega arith) t in
    cell g d k r.some pos r.fit m i ∙ sym (cell g d k r.some pos r.fit m (i / g * g)
    ∙ ap (λ (x : ℕ). (k + x) / d) (mul-div_cancel (i / g) r.some))
  where
    cell : (g d k : ℕ) → 0 < g → 0 < step → unit ≡ step * (g * d) → v ≡ k * g → (j : ℕ) → (v * step + j * step) / unit ≡ (k + j / g) / d
    cell g d k hg hs f m j =
        ap (λ (x : ℕ). x / unit) (sym (add-mul v j step) ∙ mul_comm (v + j) step)
        ∙ ap (λ (x : ℕ). step * (v + j) / x) f
        ∙ mul-div-mul_left (v + j) (g * d) hs
        ∙ sym (div-div-eq-div-mul (v + j) g d)
        ∙ ap (λ (x : ℕ). (x + j) / g / d) (m ∙ mul_comm k g)
        ∙ ap (λ (x : ℕ). x / d) (mul-add-div hg k j)

-- a line of samples that the code walks: all of them in the picture's cells, the same within a group
pub record Line (s : Shifts) (row col down across group most : ℕ) : Type 0 where
  pub small : Small s
  pub some : 0 < group
  pub few : group ≤ 8
  pub short : most ≤ 65
  pub inside : (i : ℕ) → i < most → (i * down ≤ 4096) × (i * across ≤ 4096) × (row + i * down < 4096) × (col + i * across < 4096)
  pub same : (i : ℕ) → number_by s (row + i * down) (col + i * across)
      ≡ number_by s (row + i / group * group * down) (col + i / group * group * across)

-- an edge of a block of side n, down or across, of which so many samples are in the plane
pub record Edge (s : Shifts) (row col down across unit n room : ℕ) : Type 0 where
  pub size : Size n
  pub step : Subsampling (down + across)
  pub line : Line s row col down across (group_of unit (down + across) n) (min (2 * n + 1) room)

-- a luma place on which a sample of the plane lies whose number in its row or column is a multiple of n
pub record OnGrid (n step place : ℕ) : Type 0 where
  pub sample : ℕ
  pub whole : sample % n ≡ 0
  pub on : place ≡ sample * step

-- a block of side n over a good grid
pub record Sited (s : Shifts) (e : Site) (unit n : ℕ) : Type 0 where
  pub small : Small s
  pub shift : 2 ^ s.unit ≡ unit
  pub units : Unit unit
  pub size : Size n
  pub downs : Subsampling e.down
  pub acrosses : Subsampling e.across
  pub row_at : OnGrid n e.down e.row.0
  pub col_at : OnGrid n e.across e.col.0
  pub tall : e.row.0 + e.rows * e.down ≤ 4096
  pub wide : e.col.0 + e.cols * e.across ≤ 4096
  pub above_in : e.above.0 < 4096
  pub left_in : e.left.0 < 4096

-- The neighbours that are there by the code's rule: in the plane, in a luma cell that has a number below a limit.
abbrev pub above_there : Shifts → Site → ℕ → ℕ → Bool
above_there s e limit i = ltb 0 e.row.0 && ltb i e.cols && ltb (number_by s e.above.0 (e.col.0 + i * e.across)) limit

abbrev pub left_there : Shifts → Site → ℕ → ℕ → Bool
left_there s e limit i = ltb 0 e.col.0 && ltb i e.rows && ltb (number_by s (e.row.0 + i * e.down) e.left.0) limit

abbrev pub corner_there : Shifts → Site → ℕ → Bool
corner_there s e limit = ltb 0 e.row.0 && ltb 0 e.col.0 && ltb (number_by s e.above.0 e.left.0) limit

-- the reach by it, with a limit for the corner and the row above, and one for the left column
abbrev pub edges_of : Shifts → Site → ℕ → ℕ → ℕ → Reached
edges_of s e n high low =
    record {
      no = 0;
      corner = corner_there s e high;
      above = leading (above_there s e high) (2 * n + 1);
      left = leading (left_there s e low) (2 * n + 1);
    }
