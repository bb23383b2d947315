-- A rule that tells which samples of a plane are there and is closed toward the plane's origin, as the luma rule and the chroma rule are:
-- its neighbours are counted, and the counted ones lie in the plane. Assumes nothing.
use Rattle.std.specs.Prelude.{◌≡◌, refl, Bool, true, false, ◌&&◌, ◌||◌, ◌⊎◌, ℕ, ◌+◌, ◌-◌, ◌*◌, ◌≤◌, ◌<◌, ltb, eqb, ℤ, pos, negsuc, ◌-ℤ◌}
use Rattle.std.proofs.Common.{sym, ap, ap₂, ◌∙◌, inl, inr, ⊎_elim, mul-le-mul_right, arith, lt-ltb, le-ltb, ltb-true, eq-eqb, eqb-true}
use Rattle.std.proofs.lemmas.Bool.{false≢true}
use Rattle.std.proofs.Math.Arith.{digits_lt}
use Rattle.laws.specs.Choose.{both_true, either_true}
use Rattle.laws.specs.Diff.{order, sub_pos}
use Rattle.fmt.specs.Fmt.{sub_width, sub_height}
use Rattle.order.specs.declared.LumaBlock.{LumaBlock}
use Rattle.order.specs.declared.ChromaBlock.{ChromaBlock}
use Rattle.order.specs.Answers.{held}
use Rattle.order.specs.Order.{before, number_at}
use Rattle.order.specs.Good.{Good}
use Rattle.order.specs.Leading.{leading_from_leads}
use Rattle.order.specs.order_laws.Laws.{row_rises, col_rises, before_up, before_left}
use Rattle.order.specs.Reach.{above_has, left_has, leading, reach_by, luma_has, chroma_has, chroma_height, chroma_width}
use Rattle.refs.specs.Counts.{Counted}
use Rattle.refs.specs.Spots.{spot_of, Reads}
use Rattle.refs.specs.substitution.Line.{told}

-- nothing is there above or left of the plane
pub record Bounded (has : ℤ → ℤ → Bool) : Type 0 where
  pub top : (r : ℕ) (c : ℤ) → has (negsuc r) c ≡ false
  pub side : (r : ℤ) (c : ℕ) → has r (negsuc c) ≡ false

pub record HasRule (has : ℤ → ℤ → Bool) (height width : ℕ) : Type 0 where
  pub off : Bounded has
  pub inside : (r c : ℕ) → has (pos r) (pos c) ≡ true → (r < height) × (c < width)
  pub along : (r c c' : ℕ) → c ≤ c' → has (pos r) (pos c') ≡ true → has (pos r) (pos c) ≡ true
  pub down : (c r r' : ℕ) → r ≤ r' → has (pos r') (pos c) ≡ true → has (pos r) (pos c) ≡ true

-- a number that may be below 0 stands for a row or a column, or is outside
abbrev pub Near : ℤ → ℕ → Type 0
Near z v = (z ≡ pos v) ⊎ (z ≡ negsuc 0)

pub back : (v : ℕ) → Near (pos v -ℤ pos 1) (v - 1)
back v = ⊎_elim (λ h. inl (sub_pos v 1 h)) (λ h. let z : v ≡ 0 = omega arith in inr (ap (λ (x : ℕ). pos x -ℤ pos 1) z)) (order 0 v)

-- what is there is at a row and a column
pub at_place : {has : ℤ → ℤ → Bool} → Bounded has → (z w : ℤ) (r c : ℕ) → Near z r → Near w c → has z w ≡ true → has (pos r) (pos c) ≡ true
at_place {has} off z w r c p q e =
    ⊎_elim
    (λ u. ⊎_elim (λ v. sym (ap₂ has u v) ∙ e) (λ v. absurd (false≢true (sym (off.side z 0) ∙ ap (has z) (sym v) ∙ e))) q)
    (λ u. absurd (false≢true (sym (off.top 0 w) ∙ ap (λ (x : ℤ). has x w) (sym u) ∙ e)))
    p

-- the luma rule
pub luma_off : (b : LumaBlock) → Bounded (luma_has b)
unfolding before
luma_off b = record { top = λ r c. refl; side = side }
  where
    side : (r : ℤ) (c : ℕ) → luma_has b r (negsuc c) ≡ false
    side (pos r) c = refl
    side (negsuc r) c = refl

pub luma_rule : (b : LumaBlock) → Good b.picture → HasRule (luma_has b) b.picture.height b.picture.width
unfolding before
luma_rule b g =
    let p = b.picture in
    let cur = number_at p b.row.0 b.col.0 in
    record {
      off = luma_off b;
      inside =
          λ r c e.
          let a = both_true (ltb r p.height && ltb c p.width) (ltb (number_at p r c) cur) e in
          let d = both_true (ltb r p.height) (ltb c p.width) a.0 in
          (ltb-true r p.height d.0, ltb-true c p.width d.1);
      along = before_left g cur;
      down = before_up g cur;
    }

-- the chroma rule: earlier, or in the current cell and above the block
abbrev earlier : ℕ → ℕ → ℕ → ℕ → Bool
earlier cur row nb r = ltb nb cur || eqb nb cur && ltb r row

earlier_too : (cur row nb r nb' r' : ℕ) → nb ≤ nb' → r ≤ r' → earlier cur row nb' r' ≡ true → earlier cur row nb r ≡ true
earlier_too cur row nb r nb' r' h k e =
    ⊎_elim (λ l. simp (lt-ltb nb cur (omega (arith, ltb-true nb' cur l))))
    (λ q.
    let a = both_true (eqb nb' cur) (ltb r' row) q in
    let s = eqb-true nb' cur a.0 in
    let m = lt-ltb r row (omega (arith, ltb-true r' row a.1)) in
    ⊎_elim (λ l. simp (lt-ltb nb cur l)) (λ l. simp (le-ltb nb cur l, eq-eqb nb cur (omega arith), m)) (order nb cur))
    (either_true (ltb nb' cur) (eqb nb' cur && ltb r' row) e)

abbrev current : ChromaBlock → ℕ
current b = number_at b.picture b.cur_luma_row.0 b.cur_luma_col.0

pub chroma_off : (b : ChromaBlock) → Bounded (chroma_has b)
unfolding chroma_has
chroma_off b = record { top = λ r c. refl; side = side }
  where
    side : (r : ℤ) (c : ℕ) → chroma_has b r (negsuc c) ≡ false
    side (pos r) c = refl
    side (negsuc r) c = refl

pub chroma_rule : (b : ChromaBlock) → Good b.picture → HasRule (chroma_has b) (chroma_height b) (chroma_width b)
unfolding chroma_has
chroma_rule b g =
    record {
      off = chroma_off b;
      inside = λ r c e. let t = parts r c e in (t.0, t.1);
      along =
          λ r c c' h e.
          let t = parts r c' e in
          simp (lt-ltb r (chroma_height b) t.0, lt-ltb c (chroma_width b) (omega (arith, t.1)))
          (earlier_too (current b) b.row.0 _ r _ r (col_rises g (r * sub_height b.format)
          (mul-le-mul_right (sub_width b.format) h)) (omega arith) t.2);
      down =
          λ c r r' h e.
          let t = parts r' c e in
          simp (lt-ltb r (chroma_height b) (omega (arith, t.0)), lt-ltb c (chroma_width b) t.1)
          (earlier_too (current b) b.row.0 _ r _ r'
          (row_rises g (c * sub_width b.format) (mul-le-mul_right (sub_height b.format) h)) h t.2);
    }
  where
    parts : (r c : ℕ) → chroma_has b (pos r) (pos c) ≡ true
        → (r < chroma_height b) × (c < chroma_width b) ×
        (earlier (current b) b.row.0 (number_at b.picture (r * sub_height b.format) (c * sub_width b.format)) r ≡ true)
    parts r c e =
        let a = both_true (ltb r (chroma_height b) && ltb c (chroma_width b))
        (earlier (current b) b.row.0 (number_at b.picture (r * sub_height b.format) (c * sub_width b.format)) r) e in
        let d = both_true (ltb r (chroma_height b)) (ltb c (chroma_width b)) a.0 in
        (ltb-true r (chroma_height b) d.0, ltb-true c (chroma_width b) d.1, a.1)

-- entries counted from 0 on, of a test that never comes back once it fails
counts : (f : ℕ → Bool) (m i : ℕ) → ((j k : ℕ) → j ≤ k → f k ≡ true → f j ≡ true) → i < m → f i ≡ ltb i (leading f m)
counts f m i closed h =
    let l = leading_from_leads f 0 m in
    ⊎_elim (λ s. l.hold i (omega arith) s ∙ sym (lt-ltb i (leading f m) s))
    (λ s. ⊎_elim (λ q. absurd (omega arith)) (λ q. lost q s ∙ sym (le-ltb i (leading f m) s)) l.stop)
    (order i (leading f m))
  where
    lost : f (leading f m) ≡ false → leading f m ≤ i → f i ≡ false
    lost q s = ⊎_elim (λ t. absurd (false≢true (sym q ∙ closed (leading f m) i s t))) (λ t. t) (told (f i))

module _ {has : ℤ → ℤ → Bool} {height width : ℕ} (rule : HasRule has height width) where
  -- what is there lies in the plane
  in-plane : (z w : ℤ) (r c : ℕ) → Near z r → Near w c → has z w ≡ true → (r < height) × (c < width)
  in-plane z w r c p q e = rule.inside r c (at_place rule.off z w r c p q e)

  -- it is closed along a row, and down a column
  pub closed_along : (z : ℤ) (c c' : ℕ) → c ≤ c' → has z (pos c') ≡ true → has z (pos c) ≡ true
  closed_along (pos r) c c' h e = rule.along r c c' h e
  closed_along (negsuc r) c c' h e = absurd (false≢true (sym (rule.off.top r (pos c')) ∙ e))

  pub closed_down : (w : ℤ) (r r' : ℕ) → r ≤ r' → has (pos r') w ≡ true → has (pos r) w ≡ true
  closed_down (pos c) r r' h e = rule.down c r r' h e
  closed_down (negsuc c) r r' h e = absurd (false≢true (sym (rule.off.side (pos r') c) ∙ e))

  pub counted : (row col n : ℕ) → Counted has row col n (held (reach_by 0 has row col n))
  counted row col n =
      record {
        corner = refl;
        above = λ i h. counts (above_has has row col) (2 * n + 1) i
            (λ j k l e. closed_along (pos row -ℤ pos 1) (col + j) (col + k) (omega arith) e) (omega arith);
        left = λ i h. counts (left_has has row col) (2 * n + 1) i
            (λ j k l e. closed_down (pos col -ℤ pos 1) (row + j) (row + k) (omega arith) e) (omega arith);
        above_few = omega (arith, (leading_from_leads (above_has has row col) 0 (2 * n + 1)).most);
        left_few = omega (arith, (leading_from_leads (left_has has row col) 0 (2 * n + 1)).most);
      }

  -- and in a plane of height by width samples the code reads inside it
  pub reads : (row col n : ℕ) → n ≤ 32 → Reads (held (reach_by 0 has row col n)) (spot_of width row col) (height * width) n
  reads row col n small =
      let a = leading_from_leads (above_has has row col) 0 (2 * n + 1) in
      let l = leading_from_leads (left_has has row col) 0 (2 * n + 1) in
      record {
        few = record { side = small; above_few = omega (arith, a.most); left_few = omega (arith, l.most) };
        above_in =
            λ i h.
            let p = in-plane (pos row -ℤ pos 1) (pos (col + i)) (row - 1) (col + i) (back row) (inl refl) (a.hold i (omega arith) h) in
            let q = digits_lt {q = row - 1} {m = height} {r = col + i} {c = width} p.0 p.1 in
            omega arith;
        left_in =
            λ i h.
            let p = in-plane (pos (row + i)) (pos col -ℤ pos 1) (row + i) (col - 1) (inl refl) (back col) (l.hold i (omega arith) h) in
            let q = digits_lt {q = row + i} {m = height} {r = col - 1} {c = width} p.0 p.1 in
            omega arith;
        corner_in =
            λ e.
            let p = in-plane (pos row -ℤ pos 1) (pos col -ℤ pos 1) (row - 1) (col - 1) (back row) (back col) e in
            digits_lt p.0 p.1;
      }
