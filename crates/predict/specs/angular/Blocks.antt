-- What the loops write is the standard's block. Assumes nothing.
use Rattle.std.specs.Prelude.{◌≡◌, refl, Bool, true, false, cond, ◌&&◌, List, ℕ, zero, suc, ◌+◌, ◌-◌, ◌*◌, ◌^◌, ◌≤◌, ◌<◌, eqb, length}
use Rattle.std.proofs.Common.{sym, ◌∙◌, add-zero, add-suc}
use Rattle.std.proofs.Math.Path.{ap, subst}
use Rattle.std.proofs.Math.Nat.{mul-le-mul_left}
use native.Mathlib.Omega.{arith}
use Rattle.std.proofs.Math.Dec.{ltb}
use Rattle.std.proofs.Math.ListN.{get_or}
use borrow.Author.Tests.{ne_eqb, le-leb, lt-leb}
use Rattle.laws.specs.Fill.{fill, run, block}
use Rattle.laws.specs.FillLaws.{run_at, rows_same}
use Rattle.domain.specs.Facts.{Size, size_small}
use Rattle.h265.specs.Notation.{Neighbours, from_rows}
use Rattle.h265.specs.Angular.{angular}
use Rattle.samples.specs.taps.Taps.{interp_of, edge_of}
use Rattle.predict.specs.angular.Unsigned.{angles, inverses, ref_start, ref_at, vertical_at, angular_at}
use Rattle.predict.specs.angular.Bridge.{angular_same}
use Rattle.predict.specs.angles.Starts.{line_start, fraction_of, first_of}
use Rattle.predict.specs.angles.Angles.{turns, bends}
use Rattle.predict.specs.angular.Lines.{line_at, first_le}
use Rattle.predict.specs.angular.Tables.{turn_angle, bend_inverse}
use Rattle.predict.specs.angular.Grid.{column, column_block, row_block}
use Rattle.predict.specs.angular.Reach.{ref_main, whole}

-- a run that carries on a run
run_run : {A : Type 0} (g h : ℕ → A) (a k m : ℕ) (d : List A) → ((j : ℕ) → j < m → h j ≡ g (k + j)) → run h (a + k) m (run g a k d)
    ≡ run g a (k + m) d
unfolding run
run_run g h a k zero d e = rw add-zero
run_run g h a k (suc m) d e = rw (
  add-suc k m,
  run_run g h a k m d (λ j l. e j (omega arith)),
  e m (omega arith),
  (let q : a + k + m ≡ a + (k + m) = omega arith in q),
)

module _ (corner : ℕ) (main side : List ℕ) where
  abbrev nb : Neighbours
  nb = from_rows corner main side

  -- the references, in the two parts that are written
  pub built : (inv lo n : ℕ) (d : List ℕ) {x y : List ℕ} → lo ≤ 64 → x
      ≡ run (λ (i : ℕ). ref_at (from_rows corner main side) inv (lo + i)) lo (65 - lo) d → y ≡ run (λ (c : ℕ). get_or main (0 + c) 0) 65 n x
      → y ≡ run (λ (i : ℕ). ref_at (from_rows corner main side) inv (lo + i)) lo (65 + n - lo) d
  built inv lo n d h e f =
      let G : ℕ → ℕ = λ (i : ℕ). ref_at nb inv (lo + i) in
      let H : ℕ → ℕ = λ (c : ℕ). get_or main (0 + c) 0 in
      let b : 65 ≡ lo + (65 - lo) = omega arith in
      let t : 65 - lo + n ≡ 65 + n - lo = omega arith in
      f ∙ ap (run H 65 n) e ∙ ap (λ (i : ℕ). run H i n (run G lo (65 - lo) d)) b
      ∙ run_run G H lo (65 - lo) n d
      (λ j l. ap (λ (i : ℕ). get_or main i 0) (let p : 0 + j ≡ lo + (65 - lo + j) - 65 = omega arith in p)
      ∙ ref_main nb inv (lo + (65 - lo + j)) (omega arith))
      ∙ ap (λ (i : ℕ). run G lo i d) t

  -- a sample from the main row itself, where the angle is not negative
  pub main_line : (e inv r c : ℕ) → 32 ≤ e → r < 32 → line_at main 0 e r c ≡ vertical_at nb e inv r c
  unfolding vertical_at
  main_line e inv r c h l =
      let y : (r + 1) * 32 ≤ (r + 1) * e = mul-le-mul_left (r + 1) h in
      let a : line_start 0 e r + c ≡ ref_start e r + c - 65 = omega arith in
      let b : line_start 0 e r + c + 1 ≡ ref_start e r + c + 1 - 65 = omega arith in
      rw (b, a, ← ref_main nb inv (ref_start e r + c) (omega arith), ← ref_main nb inv (ref_start e r + c + 1) (omega arith))

  -- a sample from the references
  pub refs_line : (e inv n : ℕ) (refs d : List ℕ) (r c : ℕ) → e < 32 → n ≤ 32 → r < n → c < n → 65 + n ≤ length d → refs
      ≡ run (λ (i : ℕ). ref_at (from_rows corner main side) inv (first_of e n + i)) (first_of e n) (65 + n - first_of e n) d
      → line_at refs 65 e r c ≡ vertical_at nb e inv r c
  unfolding vertical_at
  refs_line e inv n refs d r c h s hr hc l b =
      let f = first_le e n r h hr in
      let q : line_start 65 e r ≡ ref_start e r = omega arith in
      rw (q, b, at (ref_start e r + c) (omega arith) (omega arith), at (ref_start e r + c + 1) (omega arith) (omega arith))
    where
      at : (j : ℕ) → first_of e n ≤ j → j ≤ 64 + n → get_or
          (run (λ (i : ℕ). ref_at nb inv (first_of e n + i)) (first_of e n) (65 + n - first_of e n) d) j 0 ≡ ref_at nb inv j
      at j a z =
          let lo = first_of e n in
          let q : lo + (j - lo) ≡ j = omega arith in
          subst (λ (k : ℕ). get_or (run (λ (i : ℕ). ref_at nb inv (lo + i)) lo (65 + n - lo) d) k 0 ≡ ref_at nb inv k) q
          (run_at _ lo (65 + n - lo) d (j - lo) 0 (omega arith) (omega arith))

  -- blocks by rows and by columns, from the references and from the main row
  module _ (e inv n : ℕ) (s : Size n) (d : List ℕ) where
    some : 0 < n
    some = let h = (size_small n s).0 in omega arith

    pub down_refs : (refs d₀ : List ℕ) → e < 32 → 65 + n ≤ length d₀ → refs
        ≡ run (λ (i : ℕ). ref_at (from_rows corner main side) inv (first_of e n + i)) (first_of e n) (65 + n - first_of e n) d₀
        → block (line_at refs 65 e) n d ≡ block (vertical_at (from_rows corner main side) e inv) n d
    down_refs refs d₀ h l b = rows_same _ _ n n d (λ r c hr hc. refs_line e inv n refs d₀ r c h (size_small n s).1 hr hc l b) some

    pub across_refs : (refs d₀ : List ℕ) → e < 32 → 65 + n ≤ length d₀ → refs
        ≡ run (λ (i : ℕ). ref_at (from_rows corner main side) inv (first_of e n + i)) (first_of e n) (65 + n - first_of e n) d₀
        → block (λ (r c : ℕ). line_at refs 65 e c r) n d ≡ block (λ (r c : ℕ). vertical_at (from_rows corner main side) e inv c r) n d
    across_refs refs d₀ h l b = rows_same _ _ n n d (λ r c hr hc. refs_line e inv n refs d₀ c r h (size_small n s).1 hc hr l b) some

    pub down_main : 32 ≤ e → block (line_at main 0 e) n d ≡ block (vertical_at (from_rows corner main side) e inv) n d
    down_main h = rows_same _ _ n n d (λ r c hr hc. let z = (size_small n s).1 in main_line e inv r c h (omega arith)) some

    pub across_main : 32 ≤ e → block (λ (r c : ℕ). line_at main 0 e c r) n d
        ≡ block (λ (r c : ℕ). vertical_at (from_rows corner main side) e inv c r) n d
    across_main h = rows_same _ _ n n d (λ r c hr hc. let z = (size_small n s).1 in main_line e inv c r h (omega arith)) some

    -- angle 32 is the same in both directions
    turned : (r c : ℕ) → line_at main 0 64 r c ≡ line_at main 0 64 c r
    turned r c =
        let f : fraction_of 64 r ≡ 0 = omega arith in
        let g : fraction_of 64 c ≡ 0 = omega arith in
        let a : line_start 0 64 r + c ≡ line_start 0 64 c + r = omega arith in
        rw (f, g, a)

    pub across_whole : e ≡ 64 → block (line_at main 0 e) n d ≡ block (λ (r c : ℕ). vertical_at (from_rows corner main side) e inv c r) n d
    across_whole q = rows_same _ _ n n d (λ r c hr hc. rw q (turned r c)) some ∙ across_main (omega arith)

  -- angle 0 of a horizontal mode: the main row's own sample
  flat : (r c : ℕ) → c < 32 → get_or main r 0 ≡ vertical_at nb 32 0 c r
  flat r c h =
      let f : fraction_of 32 c ≡ 0 = omega arith in
      let a : line_start 0 32 c + r ≡ r = omega arith in
      whole (get_or main r 0) (get_or main (r + 1) 0) ∙ (let w : interp_of 0 (get_or main r 0) (get_or main (r + 1) 0)
      ≡ line_at main 0 32 c r = rw (f, a) in w) ∙ main_line 32 0 c r (omega arith) h

-- an edge that is on, and one that is off
edge_on : (b c : Bool) (x : ℕ) {u v : ℕ} → c ≡ true → u ≡ v → cond b x u ≡ cond (b && c) x v
edge_on true true x e p = refl
edge_on false c x e p = p
edge_on true false x e p = absurd (let z : ◌≡◌ {A = ℕ} 0 1 = ap (λ (b : Bool). cond b 1 0) e in omega arith)

edge-off : (b c : Bool) (x : ℕ) {u v : ℕ} → c ≡ false → u ≡ v → u ≡ cond (b && c) x v
edge-off b false x e p = rw (none b) p
  where
    none : (b : Bool) → (b && false) ≡ false
    none true = refl
    none false = refl
edge-off b true x e p = absurd (let z : ◌≡◌ {A = ℕ} 0 1 = ap (λ (b : Bool). cond b 0 1) e in omega arith)

-- a whole block, as the code makes it and as the standard has it
module _ (corner : ℕ) (above left : List ℕ) (bits n : ℕ) (edge : Bool) (s : Size n) (d : List ℕ) where
  few : n ≤ 32
  few = (size_small n s).1

  any : 0 < n
  any = let h = (size_small n s).0 in omega arith

  -- mode 26
  pub upright : (edge && ltb n 32) ≡ false → block (line_at above 0 32) n d
      ≡ block (λ (y x : ℕ). angular_at bits edge n 26 (from_rows corner above left) x y) n d
  unfolding angular_at
  upright o = rows_same _ _ n n d (λ y x hy hx. let z = few in edge-off (eqb x 0) (edge && ltb n 32) _ o
      (main_line corner above left 32 0 y x (omega arith) (omega arith))) any

  pub upright_edge : (max : ℕ) → max ≡ 2 ^ bits - 1 → (edge && ltb n 32) ≡ true → n * n ≤ length d
      → column (λ (r : ℕ). edge_of max (get_or above 0 0) (get_or left r 0) corner) 0 n n (block (line_at above 0 32) n d)
      ≡ block (λ (y x : ℕ). angular_at bits edge n 26 (from_rows corner above left) x y) n d
  unfolding angular_at
  upright_edge max m o l =
      rw m (column_block _ (line_at above 0 32) 0 n d 0 any l)
      ∙ rows_same _ _ n n d (λ y x hy hx. let z = few in edge_on (eqb x 0) (edge && ltb n 32) _ o
      (main_line corner above left 32 0 y x (omega arith) (omega arith))) any

  -- mode 10
  pub level : (edge && ltb n 32) ≡ false → block (λ (r c : ℕ). get_or left r 0) n d
      ≡ block (λ (y x : ℕ). angular_at bits edge n 10 (from_rows corner above left) x y) n d
  unfolding angular_at
  level o = rows_same _ _ n n d (λ y x hy hx. let z = few in edge-off (eqb y 0) (edge && ltb n 32) _ o
      (flat corner left above y x (omega arith))) any

  pub level_edge : (max : ℕ) → max ≡ 2 ^ bits - 1 → (edge && ltb n 32) ≡ true → n * n ≤ length d
      → fill (λ (c : ℕ). edge_of max (get_or left 0 0) (get_or above c 0) corner) n (block (λ (r c : ℕ). get_or left r 0) n d)
      ≡ block (λ (y x : ℕ). angular_at bits edge n 10 (from_rows corner above left) x y) n d
  unfolding angular_at
  level_edge max m o l =
      rw m (row_block _ (λ (r c : ℕ). get_or left r 0) n d 0 any l)
      ∙ rows_same _ _ n n d (λ y x hy hx. let z = few in edge_on (eqb y 0) (edge && ltb n 32) _ o
      (flat corner left above y x (omega arith))) any

  -- the standard's text
  module _ (mode : ℕ) (hi : mode < 35) where
    pub text : block (λ (y x : ℕ). angular_at bits edge n mode (from_rows corner above left) x y) n d
        ≡ block (λ (y x : ℕ). angular bits edge n mode (from_rows corner above left) x y) n d
    text = rows_same _ _ n n d (λ y x hy hx. sym (angular_same bits n mode edge (from_rows corner above left) x y few hi hx hy)) any

    pub steep : 18 ≤ mode → (mode ≡ 26 → ⊥) → block
        (vertical_at (from_rows corner above left) (get_or turns (mode - 18) 0) (get_or bends (mode - 18) 0)) n d
        ≡ block (λ (y x : ℕ). angular bits edge n mode (from_rows corner above left) x y) n d
    unfolding angular_at
    steep h f =
        let q : mode - 18 ≡ mode - 18 + (18 - mode) = omega arith in
        let e : get_or turns (mode - 18) 0 ≡ get_or angles mode 0 = ap (λ (k : ℕ). get_or turns k 0) q ∙ turn_angle mode (omega arith) hi in
        let i : get_or bends (mode - 18) 0 ≡ get_or inverses mode 0 = ap (λ (k : ℕ). get_or bends k 0) q ∙ bend_inverse mode (omega arith) hi in
        rw (e, i) (rows_same _ _ n n d (λ y x hy hx. rw (le-leb 18 mode h, ne_eqb mode 26 f)) any) ∙ text

    pub shallow : 2 ≤ mode → mode < 18 → (mode ≡ 10 → ⊥)
        → block (λ (r c : ℕ). vertical_at (from_rows corner left above) (get_or turns (18 - mode) 0) (get_or bends (18 - mode) 0) c r) n d
        ≡ block (λ (y x : ℕ). angular bits edge n mode (from_rows corner above left) x y) n d
    unfolding angular_at
    shallow lo h f =
        let q : 18 - mode ≡ mode - 18 + (18 - mode) = omega arith in
        let e : get_or turns (18 - mode) 0 ≡ get_or angles mode 0 = ap (λ (k : ℕ). get_or turns k 0) q ∙ turn_angle mode lo hi in
        let i : get_or bends (18 - mode) 0 ≡ get_or inverses mode 0 = ap (λ (k : ℕ). get_or bends k 0) q ∙ bend_inverse mode lo hi in
        rows_same _ _ n n d (λ y x hy hx. rw (e, i, lt-leb 18 mode h, ne_eqb mode 10 f)) any ∙ text
