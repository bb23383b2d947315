-- The cells of the picture, by number: which numbers lie in it, how many of a block's, a row's and the picture's, and how many
-- before a cell, which is the count by bits. Assumes nothing.
use Rattle.std.specs.Prelude.{◌≡◌, Bool, true, false, ◌&&◌}
use Rattle.std.proofs.Math.Path.{refl, sym, ap, ap₂, subst}
use Rattle.std.proofs.Common.{◌∙◌, mul-one, mul_comm, zero-add}
use Rattle.std.proofs.Math.Bool.{cond}
use Prim.Native.Nat.{ℕ, zero, suc, ◌+◌, ◌-◌, ◌*◌, ◌/◌, ◌%◌, ◌^◌, ◌≤◌, ◌<◌, min}
use native.Mathlib.Omega.{arith}
use Rattle.std.proofs.Math.Decide.{dec_lt}
use Rattle.std.proofs.Math.Dec.{ltb}
use borrow.Author.Tests.{lt-ltb, le-ltb, ltb-true}
use Rattle.laws.specs.Choose.{both_true}
use Rattle.h265.specs.Notation.{log2, halvings}
use Rattle.order.specs.CellWalk.{cell_no, dbl, quad, cell_bound}
use Rattle.order.specs.Good.{Good, sized, levels, ctus_in, ctus_cover, cell_in, number_cell}
use Rattle.plan.specs.declared.tiling.Frame.{Frame}
use Rattle.plan.specs.tiling.Tiling.{picture_of, In, cell_at}
use Rattle.plan.specs.tiling.Check.{ahead_by, ahead}
use Rattle.plan.specs.tiling.Cell.{cell_row, cell_col, cell_of, of_cell}
use Rattle.plan.specs.tiling.Count.{cnt, cnt_add, cnt_none, cnt_zero, cnt_mono, from_start, four, part, halves, glue, two}

-- halvings from the CTU to the cell, and the CTUs in a row
abbrev pub deep : Frame → ℕ
deep f = levels (picture_of f)

abbrev pub across : Frame → ℕ
across f = ctus_in (picture_of f)

-- whether the cell that has number m is in the picture
unfoldable pub inside : Frame → ℕ → Bool
inside f m = ltb (4 * cell_row (deep f) (across f) m) f.height && ltb (4 * cell_col (deep f) (across f) m) f.width

-- no cell of the picture has this number or a greater one
unfoldable pub numbers : Frame → ℕ
numbers f = 256 * across f * 4 ^ deep f

-- the four cells below a cell
quarter : (m w Y X a b : ℕ) → a < 2 → b < 2 → cell_no (suc m) w (2 * Y + a) (2 * X + b) ≡ 4 * cell_no m w Y X + (2 * a + b)
unfolding cell_no
quarter m w Y X a b ha hb =
    let y : (2 * Y + a) / 2 ≡ Y = omega arith in
    let x : (2 * X + b) / 2 ≡ X = omega arith in
    omega (arith, ap₂ (cell_no m w) y x)

cell_top : (w y x : ℕ) → cell_no 0 w y x ≡ y * w + x
unfolding cell_no
cell_top w y x = refl

-- sums of a few of the four parts of a block
sum_rows : (C a b y X S W P : ℕ) → C ≡ a + b → a ≡ W * y → b ≡ P * (X * S) → y * W + X * (S * P) ≡ C
sum_rows C a b y X S W P h p q = omega arith

-- the sums of the four ways
sum01 : (C Q c S P T : ℕ) → C ≡ Q + c → c ≡ P * S → C ≡ Q + (1 * (S * P) + 0 * T)
sum01 C Q c S P T h e = omega arith

sum10 : (C Q c d S u v T U : ℕ) → C ≡ Q + c + d → c ≡ S * u → d ≡ S * v → T ≡ u + v → C ≡ Q + (0 * U + 1 * (S * T))
sum10 C Q c d S u v T U h p q e = omega (arith, ap (λ (x : ℕ). S * x) e)

sum11 : (C Q c d f S u v T P : ℕ) → C ≡ Q + c + d + f → c ≡ S * u → d ≡ S * v → f ≡ P * S → T ≡ u + v → C ≡ Q + (1 * (S * P) + 1 * (S * T))
sum11 C Q c d f S u v T P h p q r e = omega (arith, ap (λ (x : ℕ). S * x) e)

module _ {f : Frame} (g : Good (picture_of f)) where
  abbrev k : ℕ
  k = deep f

  abbrev w : ℕ
  w = across f

  abbrev p : ℕ → Bool
  p = inside f

  abbrev H : ℕ
  H = f.height / 4

  abbrev W : ℕ
  W = f.width / 4

  pub w_pos : 0 < w
  w_pos = (ctus_cover g).2

  -- a sample of the picture has a number whose cell is inside, and that is not great
  pub num_inside : (r c : ℕ) → In f r c → p (cell_at f r c) ≡ true
  unfolding inside
  num_inside r c i =
      let z = of_cell k w {y = r / 4} {x = c / 4} w_pos (cell_in g i.0 i.1).1 in
      rw (number_cell g r c, z.0, z.1)
      (simp (lt-ltb (4 * (r / 4)) f.height (omega arith), lt-ltb (4 * (c / 4)) f.width (omega arith)))

  pub num_lt : (r c : ℕ) → In f r c → cell_at f r c < numbers f
  unfolding numbers
  num_lt r c i =
      let b = cell_in g i.0 i.1 in
      omega (arith, cell_bound k 256 w b.0 b.1, number_cell g r c)

  -- the first sample of the cell that has number m
  pub is_num : (m : ℕ) → cell_at f (4 * cell_row k w m) (4 * cell_col k w m) ≡ m
  is_num m =
      let y : 4 * cell_row k w m / 4 ≡ cell_row k w m = omega arith in
      let x : 4 * cell_col k w m / 4 ≡ cell_col k w m = omega arith in
      number_cell g (4 * cell_row k w m) (4 * cell_col k w m) ∙ ap₂ (cell_no k w) y x ∙ cell_of k w m w_pos

  -- a number whose cell is inside is that of a sample of the picture
  pub inside_num : (m : ℕ) → p m ≡ true → (r : ℕ) × (c : ℕ) × In f r c × (cell_at f r c ≡ m)
  unfolding inside
  inside_num m e =
      let b = both_true (ltb (4 * cell_row k w m) f.height) (ltb (4 * cell_col k w m) f.width) e in
      (4 * cell_row k w m, 4 * cell_col k w m, (ltb-true _ _ b.0, ltb-true _ _ b.1), is_num m)

  one_cell : (Y X : ℕ) → X < w * 2 ^ k → cnt p (cell_no k w Y X) 1 ≡ part 1 H Y * part 1 W X
  unfolding cnt inside
  one_cell Y X h =
      let z = of_cell k w {y = Y} {x = X} (w_pos) h in
      rw (z.0, z.1) (go (dec_lt (4 * Y) f.height) (dec_lt (4 * X) f.width))
    where
      go : Dec (4 * Y < f.height) → Dec (4 * X < f.width) → cond (ltb (4 * Y) f.height && ltb (4 * X) f.width) 1 0 + 0
          ≡ part 1 H Y * part 1 W X
      go (yes l) (yes m) =
          let y : part 1 H Y ≡ 1 = omega (arith, g.tall.whole) in
          let x : part 1 W X ≡ 1 = omega (arith, g.wide.whole) in
          rw (lt-ltb (4 * Y) f.height l, lt-ltb (4 * X) f.width m, y, x)
      go (yes l) (no m) =
          let x : part 1 W X ≡ 0 = omega (arith, g.wide.whole) in
          simp (lt-ltb (4 * Y) f.height l, le-ltb (4 * X) f.width (omega arith), x) (omega arith)
      go (no l) _ =
          let y : part 1 H Y ≡ 0 = omega (arith, g.tall.whole) in
          simp (le-ltb (4 * Y) f.height (omega arith), y) (omega arith)

  -- a block of 2^j by 2^j cells has the cells that lie in the picture
  block_cells : (j m Y X : ℕ) → j + m ≡ k → X < w * 2 ^ m → cnt p (cell_no m w Y X * 4 ^ j) (4 ^ j) ≡ part (2 ^ j) H Y * part (2 ^ j) W X
  block_cells zero m Y X e h =
      let z : m ≡ k = omega arith in
      subst (λ (u : ℕ). X < w * 2 ^ u → cnt p (cell_no u w Y X * 1) 1 ≡ part 1 H Y * part 1 W X) (sym z) (λ l. rw mul-one (one_cell Y X l)) h
  block_cells (suc j) m Y X e h =
      let q = cell_no m w Y X in
      let at : (a b : ℕ) → a < 2 → b < 2 → cnt p ((4 * q + (2 * a + b)) * 4 ^ j) (4 ^ j)
      ≡ part (2 ^ j) H (2 * Y + a) * part (2 ^ j) W (2 * X + b)
      = λ a b ha hb. ap (λ (u : ℕ). cnt p (u * 4 ^ j) (4 ^ j)) (sym (quarter m w Y X a b ha hb))
      ∙ block_cells j (suc m) (2 * Y + a) (2 * X + b) (omega arith) (omega (arith, dbl w m)) in
      glue _ _ _ _ _ _ _ _ _ _ _ (four p q (4 ^ j) (4 ^ suc j) (omega (arith, quad 1 j)))
      (at 0 0 (omega arith) (omega arith)) (at 0 1 (omega arith) (omega arith)) (at 1 0 (omega arith) (omega arith))
      (at 1 1 (omega arith) (omega arith))
      (halves (2 ^ j) (2 ^ suc j) H Y (omega (arith, dbl 1 j))) (halves (2 ^ j) (2 ^ suc j) W X (omega (arith, dbl 1 j)))

  -- the CTUs of a row up to X, and the rows of CTUs up to Y
  row_cells : (Y X : ℕ) → X ≤ w → cnt p (Y * w * 4 ^ k) (X * 4 ^ k) ≡ part (2 ^ k) H Y * min (X * 2 ^ k) W
  row_cells Y zero h =
      let z : min (0 * 2 ^ k) W ≡ 0 = omega arith in
      cnt_zero p (Y * w * 4 ^ k) (0 * 4 ^ k) (omega arith) ∙ sym (ap (λ (u : ℕ). part (2 ^ k) H Y * u) z ∙ omega arith)
  row_cells Y (suc X) h =
      let more = ap (cnt p (Y * w * 4 ^ k)) (let e : suc X * 4 ^ k ≡ X * 4 ^ k + 4 ^ k = omega arith in e)
      ∙ cnt_add p (Y * w * 4 ^ k) (X * 4 ^ k) (4 ^ k) in
      let at = ap (λ (u : ℕ). cnt p u (4 ^ k)) (let e : Y * w * 4 ^ k + X * 4 ^ k
      ≡ cell_no 0 w Y X * 4 ^ k = omega (arith, ap (λ (u : ℕ). u * 4 ^ k) (cell_top w Y X)) in e) in
      two _ _ _ (part (2 ^ k) H Y) (min (X * 2 ^ k) W) (part (2 ^ k) W X) _ more
      (row_cells Y X (omega arith)) (at ∙ block_cells k 0 Y X (omega arith) (omega arith)) (omega arith)

  all_cells : (Y : ℕ) → cnt p 0 (Y * w * 4 ^ k) ≡ W * min (Y * 2 ^ k) H
  all_cells zero =
      let z : min (0 * 2 ^ k) H ≡ 0 = omega arith in
      cnt_zero p 0 (0 * w * 4 ^ k) (omega arith) ∙ sym (ap (λ (u : ℕ). W * u) z ∙ omega arith)
  all_cells (suc Y) =
      let more = ap (cnt p 0) (let e : suc Y * w * 4 ^ k ≡ Y * w * 4 ^ k + w * 4 ^ k = omega arith in e)
      ∙ cnt_add p 0 (Y * w * 4 ^ k) (w * 4 ^ k) in
      let wide : min (w * 2 ^ k) W ≡ W = omega (arith, (ctus_cover g).0, ap (λ (u : ℕ). w * u) (sized g).split) in
      let row = ap (λ (u : ℕ). cnt p u (w * 4 ^ k)) (zero-add (Y * w * 4 ^ k)) ∙ row_cells Y w (omega arith)
      ∙ ap (λ (u : ℕ). part (2 ^ k) H Y * u) wide ∙ mul_comm (part (2 ^ k) H Y) W in
      two _ _ _ W (min (Y * 2 ^ k) H) (part (2 ^ k) H Y) _ more (all_cells Y) row (omega arith)

  pub picture_area : f.height * f.width ≡ 16 * cnt p 0 (numbers f)
  unfolding numbers
  picture_area =
      let tall : f.height ≡ 4 * H = omega (arith, g.tall.whole) in
      let wide : f.width ≡ 4 * W = omega (arith, g.wide.whole) in
      let all : min (256 * 2 ^ k) H ≡ H = omega (arith, g.tall.high, (sized g).split, (sized g).bounds) in
      omega (arith, all_cells 256 ∙ ap (λ (u : ℕ). W * u) all, ap₂ ◌*◌ tall wide)

  -- and no run of numbers has more
  pub cnt_most : (m : ℕ) → cnt p 0 m ≤ cnt p 0 (numbers f)
  cnt_most m = go (dec_lt m (numbers f))
    where
      outside : (i : ℕ) → numbers f ≤ i → (b : Bool) → p i ≡ b → p i ≡ false
      outside i l true e = let s = inside_num i e in absurd (omega (arith, s.3, num_lt s.0 s.1 s.2))
      outside i l false e = e

      go : Dec (m < numbers f) → cnt p 0 m ≤ cnt p 0 (numbers f)
      go (yes l) = cnt_mono p m (numbers f) (omega arith)
      go (no l) =
          let d = m - numbers f in
          let e : m ≡ numbers f + d = omega arith in
          omega (arith, ap (cnt p 0) e, from_start p (numbers f) d, cnt_none p (numbers f) d (λ i l q. outside i l (p i) refl))

  -- the four parts of a block, and the counts before each
  module _ (j m Y X : ℕ) (e : j + suc m ≡ k) (h : X < w * 2 ^ m) where
    abbrev q : ℕ
    q = cell_no m w Y X

    abbrev S : ℕ
    S = 2 ^ j

    at : (a b : ℕ) → a < 2 → b < 2 → cnt p ((4 * q + (2 * a + b)) * 4 ^ j) (4 ^ j) ≡ part S H (2 * Y + a) * part S W (2 * X + b)
    at a b ha hb = ap (λ (u : ℕ). cnt p (u * 4 ^ j) (4 ^ j)) (sym (quarter m w Y X a b ha hb))
        ∙ block_cells j (suc m) (2 * Y + a) (2 * X + b) e (omega (arith, dbl w m))

    next : (c : ℕ) → cnt p 0 ((4 * q + (c + 1)) * 4 ^ j) ≡ cnt p 0 ((4 * q + c) * 4 ^ j) + cnt p ((4 * q + c) * 4 ^ j) (4 ^ j)
    next c = ap (cnt p 0) (let z : (4 * q + (c + 1)) * 4 ^ j ≡ (4 * q + c) * 4 ^ j + 4 ^ j = omega arith in z)
        ∙ from_start p ((4 * q + c) * 4 ^ j) (4 ^ j)

    start : cnt p 0 ((4 * q + 0) * 4 ^ j) ≡ cnt p 0 (q * 4 ^ suc j)
    start = ap (cnt p 0) (omega (arith, quad q j))

    abbrev Goal : ℕ → ℕ → Type 0
    Goal a b = cnt p 0 ((4 * q + (2 * a + b)) * 4 ^ j)
        ≡ cnt p 0 (q * 4 ^ suc j) + (b * (S * part S H (2 * Y + a)) + a * (S * part (2 * S) W X))

    full_left : (2 * X + 1) * S < W → part S W (2 * X + 0) ≡ S
    full_left l = omega arith

    full_top : (2 * Y + 1) * S < H → part S H (2 * Y + 0) ≡ S
    full_top l = omega arith

    wide : part (2 * S) W X ≡ part S W (2 * X + 0) + part S W (2 * X + 1)
    wide = halves S (2 * S) W X refl

    top : (2 * Y + 1) * S < H → (b : ℕ) → b < 2 → cnt p ((4 * q + (2 * 0 + b)) * 4 ^ j) (4 ^ j) ≡ S * part S W (2 * X + b)
    top l b hb = at 0 b (omega arith) hb ∙ ap (λ (u : ℕ). u * part S W (2 * X + b)) (full_top l)

    left : (2 * X + 1) * S < W → (a : ℕ) → a < 2 → cnt p ((4 * q + (2 * a + 0)) * 4 ^ j) (4 ^ j) ≡ part S H (2 * Y + a) * S
    left l a ha = at a 0 ha (omega arith) ∙ ap (λ (u : ℕ). part S H (2 * Y + a) * u) (full_left l)

    quarters : (a b : ℕ) → a < 2 → b < 2 → (2 * Y + a) * S < H → (2 * X + b) * S < W → Goal a b
    quarters zero zero ha hb ly lx = start ∙ omega arith
    quarters zero (suc zero) ha hb ly lx = sum01 _ _ _ S _ _ (next 0 ∙ ap (λ (u : ℕ). u + cnt p ((4 * q + 0) * 4 ^ j) (4 ^ j)) start)
        (left lx 0 (omega arith))
    quarters (suc zero) zero ha hb ly lx =
        sum10 _ _ _ _ S _ _ _ _ (omega (arith, next 1, next 0, start)) (top ly 0 (omega arith)) (top ly 1 (omega arith)) wide
    quarters (suc zero) (suc zero) ha hb ly lx =
        sum11 _ _ _ _ _ S _ _ _ _ (omega (arith, next 2, next 1, next 0, start)) (top ly 0 (omega arith)) (top ly 1 (omega arith))
        (left lx 1 (omega arith)) wide
    quarters (suc (suc a)) b ha hb ly lx = absurd (omega arith)
    quarters zero (suc (suc b)) ha hb ly lx = absurd (omega arith)
    quarters (suc zero) (suc (suc b)) ha hb ly lx = absurd (omega arith)

  ctus : (Y X : ℕ) → X ≤ w → Y * 2 ^ k < H → X * 2 ^ k < W → Y * 2 ^ k * W + X * (2 ^ k * min (2 ^ k) (H - Y * 2 ^ k))
      ≡ cnt p 0 (cell_no 0 w Y X * 4 ^ k)
  ctus Y X h ly lx =
      let y : min (Y * 2 ^ k) H ≡ Y * 2 ^ k = omega arith in
      let x : min (X * 2 ^ k) W ≡ X * 2 ^ k = omega arith in
      let split = ap (cnt p 0) (let z : cell_no 0 w Y X * 4 ^ k
      ≡ Y * w * 4 ^ k + X * 4 ^ k = omega (arith, ap (λ (u : ℕ). u * 4 ^ k) (cell_top w Y X)) in z)
      ∙ from_start p (Y * w * 4 ^ k) (X * 4 ^ k) in
      sum_rows _ _ _ (Y * 2 ^ k) X (2 ^ k) W _ split (all_cells Y ∙ ap (λ (u : ℕ). W * u) y)
      (row_cells Y X h ∙ ap (λ (u : ℕ). part (2 ^ k) H Y * u) x)

  ahead_cnt : (m j Y X : ℕ) → j + m ≡ k → Y * 2 ^ j < H → X * 2 ^ j < W → X < w * 2 ^ m → ahead_by H W m (2 ^ j) Y X
      ≡ cnt p 0 (cell_no m w Y X * 4 ^ j)
  unfolding ahead_by cell_no
  ahead_cnt zero j Y X e ly lx h =
      let z : j ≡ k = omega arith in
      subst (λ (u : ℕ). Y * 2 ^ u < H → X * 2 ^ u < W → Y * 2 ^ u * W + X * (2 ^ u * min (2 ^ u) (H - Y * 2 ^ u))
      ≡ cnt p 0 (cell_no 0 w Y X * 4 ^ u)) (sym z) (ctus Y X (omega arith)) ly lx
  ahead_cnt (suc m) j Y X e ly lx h =
      let y : 2 * (Y / 2) + Y % 2 ≡ Y = omega arith in
      let x : 2 * (X / 2) + X % 2 ≡ X = omega arith in
      let hx : X / 2 < w * 2 ^ m = omega (arith, dbl w m) in
      let parent = ap (λ (u : ℕ). ahead_by H W m u (Y / 2) (X / 2)) (let d : 2 * 2 ^ j ≡ 2 ^ suc j = omega (arith, dbl 1 j) in d)
      ∙ ahead_cnt m (suc j) (Y / 2) (X / 2) (omega arith) (omega (arith, dbl (Y / 2) j, ap (λ (u : ℕ). u * 2 ^ j) y))
      (omega (arith, dbl (X / 2) j, ap (λ (u : ℕ). u * 2 ^ j) x)) hx in
      let here = quarters j m (Y / 2) (X / 2) e hx (Y % 2) (X % 2) (omega arith) (omega arith)
      (omega (arith, ap (λ (u : ℕ). u * 2 ^ j) y)) (omega (arith, ap (λ (u : ℕ). u * 2 ^ j) x)) in
      ap (λ (u : ℕ). u + (X % 2 * (2 ^ j * min (2 ^ j) (H - Y * 2 ^ j)) + Y % 2 * (2 ^ j * min (2 * 2 ^ j) (W - X / 2 * (2 * 2 ^ j)))))
      parent
      ∙ ap (λ (u : ℕ). cnt p 0 (cell_no m w (Y / 2) (X / 2) * 4 ^ suc j) +
      (X % 2 * (2 ^ j * min (2 ^ j) (H - u * 2 ^ j)) + Y % 2 * (2 ^ j * min (2 * 2 ^ j) (W - X / 2 * (2 * 2 ^ j))))) (sym y)
      ∙ sym here

  two_levels : deep f ≡ log2 f.ctu - 2
  unfolding halvings
  two_levels = refl

  -- the samples ahead of a sample of the picture are those of the cells with lower numbers
  pub ahead_is : (r c : ℕ) → In f r c → ahead f r c ≡ 16 * cnt p 0 (cell_at f r c)
  unfolding ahead
  ahead_is r c i =
      let a = ahead_cnt k 0 (r / 4) (c / 4) (omega arith) (omega (arith, g.tall.whole)) (omega (arith, g.wide.whole))
      (cell_in g i.0 i.1).1 in
      ap (λ (m : ℕ). 16 * ahead_by H W m 1 (r / 4) (c / 4)) (sym two_levels)
      ∙ ap (λ (u : ℕ). 16 * u) (a ∙ ap (cnt p 0) (mul-one (cell_no k w (r / 4) (c / 4)) ∙ sym (number_cell g r c)))
