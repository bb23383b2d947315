-- The gathers of document 01 against H.265 6.4.1 and 8.4.4.2.2: for a luma call that is not refused, and for a chroma call at its block's
-- own place too, the two agree on all the neighbours that the standard has, so what entry 2n of a row holds matters to no other entry.
-- One theorem over any component, gathered_standard; luma_standard and chroma_standard are its instances. Assumes nothing.
use Rattle.std.specs.Prelude.{◌≡◌, refl, Bool, true, false, List, ◌⊎◌, ltb, ℤ, negsuc, nat_abs, neg_ℤ, ◌+ℤ◌, ◌-ℤ◌, ◌*ℤ◌, length, get_or, replicate}
use Rattle.std.proofs.Math.Path.{sym, ap}
use Rattle.std.proofs.Common.{ap₂, ◌∙◌, subst, mul-one, mul-pos, mul-lt-mul_of_pos_right}
use Rattle.std.proofs.Math.Bool.{cond}
use Rattle.std.proofs.lemmas.Bool.{false≢true}
use Rattle.std.proofs.Math.Logic.{inl, inr, ⊎_elim}
use Prim.Native.Nat.{ℕ, zero, suc, ◌+◌, ◌-◌, ◌*◌, ◌%◌, ◌≤◌, ◌<◌}
use native.Mathlib.Omega.{arith}
use Rattle.std.proofs.Math.Decide.{dec_lt, ℕ_discrete}
use Rattle.std.proofs.Math.IntN.{pos, -ℤ_one}
use Rattle.std.proofs.lemmas.List.{length-replicate, get_or-replicate}
use borrow.Author.Tests.{lt-ltb, le-ltb, le-leb, lt-leb, eq-eqb, ne_eqb}
use Rattle.laws.specs.Fill.{fill}
use Rattle.laws.specs.FillLaws.{fill_at, length_fill}
use Rattle.h265.specs.Mean.{Agree}
use Rattle.h265.specs.Notation.{Neighbours, near}
use Rattle.h265.specs.Setting.{Grid, Component, luma_at}
use Rattle.h265.specs.Availability.{available}
use Rattle.h265.specs.Substitution.{place_x, place_y, first_marked, settled, substituted_at, from_places, marked, neighbours}
use Rattle.domain.specs.Facts.{Size, Unit, size_small, at_size}
use Rattle.domain.specs.declared.rows.Rows.{Rows}
use Rattle.domain.specs.rows.Neighbours.{neighbours_of, level_rows}
use Rattle.fmt.specs.Fmt.{sub_width, sub_height, sub-width, sub-height, Subsampling, step_width}
use Rattle.order.specs.declared.LumaBlock.{LumaBlock}
use Rattle.order.specs.declared.ChromaBlock.{ChromaBlock}
use Rattle.order.specs.Order.{grid_of, number_at}
use Rattle.order.specs.Blocks.{LumaFine, luma_fine, ChromaFine, chroma_fine}
use Rattle.order.specs.order_laws.Laws.{standard_agrees, chroma_agrees, own_cell_apart}
use Rattle.order.specs.Reach.{luma_has, chroma_has, chroma_width}
use Rattle.refs.specs.declared.substitution.Flags.{Flags}
use Rattle.refs.specs.declared.LumaRefGeometry.{LumaRefGeometry}
use Rattle.refs.specs.declared.ChromaRefGeometry.{ChromaRefGeometry}
use Rattle.refs.specs.substitution.Substitution.{marked_on_line, flags_on, samples_on, from_line, substituted}
use Rattle.refs.specs.Gather.{flags_by, samples_by, gathered_by, sample_of}
use Rattle.refs.specs.substitution.Door.{neutral_at}
use Rattle.refs.specs.Door.{luma_block, luma_no, luma_rows, format_of, chroma_picture, chroma_block, chroma_no, chroma_rows}
use Rattle.refs.specs.Component.{component_of, OwnPlace}
use Rattle.refs.specs.Rules.{Bounded, HasRule, luma_rule, chroma_rule, closed_along, closed_down}
use Rattle.refs.specs.Served.{luma_passed, chroma_passed}
use Rattle.refs.specs.standard.Shorter.{Shared, shorter}

-- the places of our line
module _ {A : Type 0} (l : ℕ → A) (c : A) (u : ℕ → A) (e : ℕ) where
  pub on_left : (k i : ℕ) → k + i ≡ e → marked_on_line l c u e k ≡ l i
  unfolding marked_on_line
  on_left k i h = simp (le-leb k e (omega arith)) (ap l (omega arith))

  pub on_corner : (k : ℕ) → k ≡ e + 1 → marked_on_line l c u e k ≡ c
  unfolding marked_on_line
  on_corner k h = simp (lt-leb k e (omega arith), eq-eqb k (e + 1) h)

  pub on_above : (k i : ℕ) → k ≡ e + 2 + i → marked_on_line l c u e k ≡ u i
  unfolding marked_on_line
  on_above k i h = simp (lt-leb k e (omega arith), ne_eqb k (e + 1) (λ q. omega (arith, q))) (ap u (omega arith))

-- place k of the standard's line is place k + 1 of ours
on_line : {A : Type 0} (f : ℤ → ℤ → A) (n : ℕ) (l : ℕ → A) (c : A) (u : ℕ → A) → ((i : ℕ) → i < 2 * n → l i ≡ f (negsuc 0) (pos i))
    → c ≡ f (negsuc 0) (negsuc 0) → ((i : ℕ) → i < 2 * n → u i ≡ f (pos i) (negsuc 0))
    → (k : ℕ) → k < 4 * n + 1 → marked_on_line l c u (2 * n) (suc k) ≡ f (place_x n k) (place_y n k)
on_line f n l c u hl hc hu k h = go (dec_lt k (2 * n)) (ℕ_discrete k (2 * n))
  where
    go : Dec (k < 2 * n) → Dec (k ≡ 2 * n) → marked_on_line l c u (2 * n) (suc k) ≡ f (place_x n k) (place_y n k)
    go (yes p) _ =
        simp (le-leb k (2 * n) (omega arith), lt-ltb k (2 * n) p)
        (on_left l c u (2 * n) (suc k) (2 * n - 1 - k) (omega arith) ∙ hl (2 * n - 1 - k) (omega arith))
    go (no p) (yes q) = simp (le-leb k (2 * n) (omega arith), le-ltb k (2 * n) (omega arith))
        (on_corner l c u (2 * n) (suc k) (omega arith) ∙ hc)
    go (no p) (no q) =
        simp (lt-leb k (2 * n) (omega arith), le-ltb k (2 * n) (omega arith))
        (on_above l c u (2 * n) (suc k) (k - (2 * n + 1)) (omega arith) ∙ hu (k - (2 * n + 1)) (omega arith))

-- rows as 01 has them, of 65 entries
pub record Full (rows : Rows) : Type 0 where
  pub above : length rows.above ≡ 65
  pub left : length rows.left ≡ 65

-- the rows that a line gives, at the standard's places
rows_at : (b : Bool) (n neutral : ℕ) (f : ℕ → ℕ) {rows : Rows} → n ≤ 32 → Full rows
    → Agree n (neighbours_of (cond b (from_line (2 * n) f rows) (level_rows neutral))) (from_places n (λ k. cond b (f (suc k)) neutral))
rows_at true n neutral f {rows} h full =
    record {
      corner = ap f (omega arith);
      above = λ i l. fill_at _ (2 * n + 1) rows.above i 0 (omega arith) (omega arith) ∙ ap f (omega arith);
      left = λ i l. fill_at _ (2 * n + 1) rows.left i 0 (omega arith) (omega arith) ∙ ap f (omega arith);
    }
rows_at false n neutral f h full =
    record {
      corner = refl;
      above = λ i l. get_or-replicate 65 i neutral 0 (omega arith);
      left = λ i l. get_or-replicate 65 i neutral 0
          (omega arith);
    }

-- Substitution, by any rows and flags: entry 2n of a row is there only if entry 2n - 1 is.
pub record Closed (n : ℕ) (flags : Flags) : Type 0 where
  pub above : get_or flags.above (2 * n) false ≡ true → get_or flags.above (2 * n - 1) false ≡ true
  pub left : get_or flags.left (2 * n) false ≡ true → get_or flags.left (2 * n - 1) false ≡ true

module _ (n : ℕ) (flags : Flags) (rows : Rows) (size : (4 ≤ n) × (n ≤ 32)) (full : Full rows) (closed : Closed n flags) where
  shared : (b : ℕ → Bool) (w : ℕ → ℕ) → ((k : ℕ) → k < 4 * n + 1 → flags_on flags (2 * n) (suc k) ≡ b k)
      → ((k : ℕ) → k < 4 * n + 1 → b k ≡ true → w k ≡ samples_on rows (2 * n) (suc k))
      → Shared (flags_on flags (2 * n)) b (samples_on rows (2 * n)) w (4 * n + 1)
  shared b w same value =
      let l : ℕ → Bool = λ i. get_or flags.left i false in
      let u : ℕ → Bool = λ i. get_or flags.above i false in
      let c = flags.corner in
      let e = 2 * n in
      record {
        some = omega arith;
        same = λ k h. sym (same k h);
        value = value;
        low = λ h.
            on_left l c u e 1 (e - 1) (omega arith) ∙ closed.left (sym (on_left l c u e 0 e (omega arith)) ∙ h);
        high = λ h.
            on_above l c u e (4 * n + 1) (e - 1) (omega arith)
            ∙ closed.above (sym (on_above l c u e (suc (4 * n + 1)) e (omega arith)) ∙ h);
      }

  -- the corner and entries 0 to 2n - 1 are those of 8.4.4.2.2, over any line that has the same places marked and the same samples there
  pub substituted_standard : (bits : ℕ) (b : ℕ → Bool) (w : ℕ → ℕ) → ((k : ℕ) → k < 4 * n + 1 → flags_on flags (2 * n) (suc k) ≡ b k)
      → ((k : ℕ) → k < 4 * n + 1 → b k ≡ true → w k ≡ samples_on rows (2 * n) (suc k))
      → Agree n (neighbours_of (substituted n (neutral_at bits) flags rows)) (from_places n (substituted_at bits n b w))
  unfolding substituted substituted_at
  substituted_standard bits b w same value =
      let m = suc (suc (4 * n + 1)) in
      let count : 2 * (2 * n) + 3 ≡ m = omega arith in
      let found = first_marked (flags_on flags (2 * n)) 0 m in
      let r = rows_at (ltb found m) n (neutral_at bits) (settled (flags_on flags (2 * n)) (samples_on rows (2 * n)) found) size.1 full in
      let s = shorter (shared b w same value) (neutral_at bits) in
      rw count
      (record {
        corner = r.corner ∙ s (2 * n) (omega arith);
        above = λ i l. r.above i l ∙ s (2 * n + 1 + i) (omega arith);
        left = λ i l. r.left i l ∙ s (2 * n - 1 - i) (omega arith);
      })

  -- the neighbours that the rows hold, on the standard's line
  by_neighbours : (bits : ℕ) (nb : Neighbours) → Agree n (neighbours_of rows) nb
      → Agree n (neighbours_of (substituted n (neutral_at bits) flags rows))
      (from_places n (substituted_at bits n (λ k. flags_on flags (2 * n) (suc k)) (λ k. near nb (place_x n k) (place_y n k))))
  by_neighbours bits nb same =
      substituted_standard bits _ _ (λ k l. refl) (λ k l e. sym (on_line (near nb) n _ _ _ same.left same.corner same.above k l))

-- so what entry 2n held does not matter to the others
pub last_free : (n bits : ℕ) (flags : Flags) (rows rows' : Rows) → (4 ≤ n) × (n ≤ 32) → Full rows → Full rows' → Closed n flags
    → Agree n (neighbours_of rows) (neighbours_of rows')
    → Agree n (neighbours_of (substituted n (neutral_at bits) flags rows)) (neighbours_of (substituted n (neutral_at bits) flags rows'))
last_free n bits flags rows rows' size full full' closed same =
    let own : Agree n (neighbours_of rows') (neighbours_of rows') = record { corner = refl; above = λ i l. refl; left = λ i l. refl } in
    let a = by_neighbours n flags rows size full closed bits (neighbours_of rows') same in
    let b = by_neighbours n flags rows' size full' closed bits (neighbours_of rows') own in
    record {
      corner = a.corner ∙ sym b.corner;
      above = λ i l. a.above i l ∙ sym (b.above i l);
      left = λ i l. a.left i l ∙ sym (b.left i l);
    }

-- Places next to a block. One less than m, where that is no less than 0:
one_less : (m r : ℕ) → pos m -ℤ pos 1 ≡ pos r → suc r ≡ m
one_less zero r h = let q : ◌≡◌ {A = ℕ} 0 1 = cc in absurd (omega arith)
one_less (suc m) r h = omega (arith, ap nat_abs (sym (-ℤ_one (pos (suc m))) ∙ h))

-- what is there lies in the plane
there : {has : ℤ → ℤ → Bool} → Bounded has → (r c : ℤ) → has r c ≡ true → (r ≡ pos (nat_abs r)) × (c ≡ pos (nat_abs c))
there off (pos r) (pos c) h = (refl, refl)
there off (pos r) (negsuc c) h = absurd (false≢true (sym (off.side (pos r) c) ∙ h))
there off (negsuc r) c h = absurd (false≢true (sym (off.top r c) ∙ h))

-- 6.4.1 has nothing above or left of the picture, whatever luma samples a component's samples stand for
below : (a k : ℕ) → 0 < k → negsuc a *ℤ pos k ≡ negsuc (suc a * k - 1)
below a k h = go (suc a * k) (mul-pos (omega arith) h)
  where
    go : (m : ℕ) → 0 < m → neg_ℤ (pos m) ≡ negsuc (m - 1)
    go zero l = absurd (omega arith)
    go (suc m) l = ap negsuc (let e : m ≡ suc m - 1 = omega arith in e)

none_left : (g : Grid) (x y a k : ℕ) (w : ℤ) → 0 < k → available g x y (negsuc a *ℤ pos k) w ≡ false
unfolding available
none_left g x y a k w h = ap (λ (z : ℤ). available g x y z w) (below a k h)

none_above : (g : Grid) (x y a k : ℕ) (w : ℤ) → 0 < k → available g x y w (negsuc a *ℤ pos k) ≡ false
unfolding available
none_above g x y a k w h = ap (available g x y w) (below a k h) ∙ go w
  where
    go : (w : ℤ) → available g x y w (negsuc (suc a * k - 1)) ≡ false
    go (pos x) = refl
    go (negsuc x) = refl

pub back : (m : ℕ) → pos m -ℤ pos 1 ≡ pos (nat_abs (pos m -ℤ pos 1)) → m - 1 ≡ nat_abs (pos m -ℤ pos 1)
back m h = omega (arith, one_less m (nat_abs (pos m -ℤ pos 1)) h)

pub filled : {A : Type 0} (f : ℕ → A) (z : A) (n i : ℕ) → n ≤ 32 → i ≤ 2 * n → get_or (fill f (2 * n + 1) (replicate 65 z)) i z ≡ f i
filled f z n i h l = fill_at f (2 * n + 1) (replicate 65 z) i z (omega arith) (omega (arith, length-replicate 65 z))

pub filled_length : (f : ℕ → ℕ) (n : ℕ) → length (fill f n (replicate 65 0)) ≡ 65
filled_length f n = length_fill f n (replicate 65 0) ∙ length-replicate {A = ℕ} 65 0

-- a missing sample's value is looked at nowhere
if_there : (b : Bool) (x y : ℕ) → (b ≡ true → x ≡ y) → cond b x 0 ≡ cond b y 0
if_there true x y h = h refl
if_there false x y h = refl

-- THE THEOREM, of a block of any component. A rule that tells of each sample above the block or left of it what 6.4.1 tells of the luma
-- sample that it stands for:
pub record Follows (g : Grid) (c : Component) (row col : ℕ) (has : ℤ → ℤ → Bool) : Type 0 where
  pub wide : 0 < c.sub_width
  pub high : 0 < c.sub_height
  pub tells : (nr nc : ℕ) → (nr < row) ⊎ (nc < col)
      → has (pos nr) (pos nc) ≡ available g (col * c.sub_width) (row * c.sub_height) (pos (nc * c.sub_width)) (pos (nr * c.sub_height))

module _ {g : Grid} {c : Component} {row col n height width : ℕ} {has : ℤ → ℤ → Bool} (rule : HasRule has height width)
    (f : Follows g c row col has) (size : (4 ≤ n) × (n ≤ 32)) (sample : ℕ → ℕ → ℕ) where
  abbrev flags : Flags
  flags = flags_by has row col n

  abbrev rows : Rows
  rows = samples_by has sample row col n

  -- the neighbour in column x and row y from the block's first sample
  abbrev mark : ℤ → ℤ → Bool
  mark = marked g c col row

  abbrev read : ℤ → ℤ → ℕ
  read x y = sample (nat_abs (pos row +ℤ y)) (nat_abs (pos col +ℤ x))

  available_is : (r x : ℤ) → ((nr nc : ℕ) → r ≡ pos nr → x ≡ pos nc → (nr < row) ⊎ (nc < col))
      → has r x ≡ available g (col * c.sub_width) (row * c.sub_height) (x *ℤ pos c.sub_width) (r *ℤ pos c.sub_height)
  available_is (pos nr) (pos nc) near = f.tells nr nc (near nr nc refl refl)
  available_is (pos nr) (negsuc nc) near =
      rule.off.side (pos nr) nc ∙ sym (none_left g _ _ nc c.sub_width (pos nr *ℤ pos c.sub_height) f.wide)
  available_is (negsuc nr) x near =
      rule.off.top nr x ∙ sym (none_above g _ _ nr c.sub_height (x *ℤ pos c.sub_width) f.high)

  pub mark_is : (x y : ℤ) → (y ≡ negsuc 0) ⊎ (x ≡ negsuc 0) → has (pos row +ℤ y) (pos col +ℤ x) ≡ mark x y
  unfolding marked
  mark_is x y off = available_is (pos row +ℤ y) (pos col +ℤ x) near
    where
      near : (nr nc : ℕ) → pos row +ℤ y ≡ pos nr → pos col +ℤ x ≡ pos nc → (nr < row) ⊎ (nc < col)
      near nr nc hr hc =
          ⊎_elim
          (λ e. inl (omega (arith, one_less row nr (ap (λ (z : ℤ). pos row +ℤ z) (sym e) ∙ hr))))
          (λ e. inr (omega (arith, one_less col nc (ap (λ (z : ℤ). pos col +ℤ z) (sym e) ∙ hc))))
          off

  mark_at : (k : ℕ) → k < 4 * n + 1 → flags_on flags (2 * n) (suc k) ≡ mark (place_x n k) (place_y n k)
  mark_at =
      on_line mark n _ _ _
      (λ i l. filled _ false n i size.1 (omega arith) ∙ mark_is (negsuc 0) (pos i) (inr refl))
      (mark_is (negsuc 0) (negsuc 0) (inl refl))
      (λ i l. filled _ false n i size.1 (omega arith) ∙ mark_is (pos i) (negsuc 0) (inl refl))

  pub read_is : (x y : ℤ) (r k : ℕ) → (y ≡ negsuc 0) ⊎ (x ≡ negsuc 0)
      → (pos row +ℤ y ≡ pos (nat_abs (pos row +ℤ y)) → r ≡ nat_abs (pos row +ℤ y))
      → (pos col +ℤ x ≡ pos (nat_abs (pos col +ℤ x)) → k ≡ nat_abs (pos col +ℤ x))
      → cond (has (pos row +ℤ y) (pos col +ℤ x)) (sample r k) 0 ≡ cond (mark x y) (read x y) 0
  read_is x y r k off hr hc =
      let R = pos row +ℤ y in
      let C = pos col +ℤ x in
      if_there (has R C) (sample r k) (read x y) (λ e. let t = there rule.off R C e in ap₂ sample (hr t.0) (hc t.1))
      ∙ ap (λ (b : Bool). cond b (read x y) 0) (mark_is x y off)

  read_at : (k : ℕ) → k < 4 * n + 1 → samples_on rows (2 * n) (suc k)
      ≡ cond (mark (place_x n k) (place_y n k)) (read (place_x n k) (place_y n k)) 0
  read_at =
      on_line (λ (x y : ℤ). cond (mark x y) (read x y) 0) n _ _ _
      (λ i l. filled _ 0 n i size.1 (omega arith)
      ∙ read_is (negsuc 0) (pos i) (row + i) (col - 1) (inr refl) (λ e. refl) (back col))
      (read_is (negsuc 0) (negsuc 0) (row - 1) (col - 1) (inl refl) (back row) (back col))
      (λ i l. filled _ 0 n i size.1 (omega arith)
      ∙ read_is (pos i) (negsuc 0) (row - 1) (col + i) (inl refl) (back row) (λ e. refl))

  closed : Closed n flags
  closed = record {
    above = λ e.
        filled _ false n (2 * n - 1) size.1 (omega arith)
        ∙ closed_along rule (pos row -ℤ pos 1) (col + (2 * n - 1)) (col + 2 * n) (omega arith)
        (sym (filled _ false n (2 * n) size.1 (omega arith)) ∙ e);
    left = λ e.
        filled _ false n (2 * n - 1) size.1 (omega arith)
        ∙ closed_down rule (pos col -ℤ pos 1) (row + (2 * n - 1)) (row + 2 * n) (omega arith)
        (sym (filled _ false n (2 * n) size.1 (omega arith)) ∙ e);
  }

  -- the rows gathered by it are the neighbours of 6.4.1 and 8.4.4.2.2
  pub gathered_standard : Agree n (neighbours_of (gathered_by has sample row col n (neutral_at c.bits)))
      (neighbours g c n col row (λ x y. sample y x))
  unfolding gathered_by neighbours
  gathered_standard =
      substituted_standard n flags rows size (record { above = filled_length _ (2 * n + 1); left = filled_length _ (2 * n + 1) }) closed
      c.bits _ _ mark_at
      (λ k l e. sym (read_at k l ∙ ap (λ (b : Bool). cond b (read (place_x n k) (place_y n k)) 0) e))

-- Its instances. A multiple of a block's side stands for a multiple of the unit, where the unit is no wider than the block.
abbrev Aligned : ℕ → ℕ → ℕ → ℕ → Type 0
Aligned v unit step n = unit ≤ n * step → v % n ≡ 0 → v * step % unit ≡ 0

aligned : (unit n step v : ℕ) → Unit unit → Size n → Subsampling step → Aligned v unit step n
aligned unit n step v u s t =
    ⊎_elim
    (λ e. ⊎_elim (at 4 1 e (λ a b. omega arith) (λ a b. omega arith) (λ a b. omega arith) (λ a b. omega arith))
    (at 4 2 e (λ a b. omega arith) (λ a b. omega arith) (λ a b. omega arith) (λ a b. omega arith)) t)
    (λ e. ⊎_elim (at 8 1 e (λ a b. omega arith) (λ a b. omega arith) (λ a b. omega arith) (λ a b. omega arith))
    (at 8 2 e (λ a b. omega arith) (λ a b. omega arith) (λ a b. omega arith) (λ a b. omega arith)) t)
    u
  where
    at : (m k : ℕ) → unit ≡ m → Aligned v m k 4 → Aligned v m k 8 → Aligned v m k 16 → Aligned v m k 32 → step ≡ k → Aligned v unit step n
    at m k p a b c d q =
        subst (λ (x : ℕ). Aligned v x step n) (sym p)
        (subst (λ (y : ℕ). Aligned v m y n) (sym q) (at_size (Aligned v m k) a b c d n s))

-- luma
luma_follows : (bits : ℕ) (b : LumaBlock) → LumaFine b → Follows (grid_of b.picture) (luma_at bits) b.row.0 b.col.0 (luma_has b)
luma_follows bits b f = record { wide = omega arith; high = omega arith; tells = tells }
  where
    at : (v : ℕ) → v % b.n ≡ 0 → v % b.picture.unit ≡ 0
    at v e = subst (λ (k : ℕ). k % b.picture.unit ≡ 0) (mul-one v)
        (aligned b.picture.unit b.n 1 v f.good.units f.size (inl refl) (omega (arith, f.unit_in)) e)

    tells : (nr nc : ℕ) → (nr < b.row.0) ⊎ (nc < b.col.0)
        → luma_has b (pos nr) (pos nc) ≡ available (grid_of b.picture) (b.col.0 * 1) (b.row.0 * 1) (pos (nc * 1)) (pos (nr * 1))
    tells nr nc side =
        rw (mul-one nr, mul-one nc, mul-one b.row.0, mul-one b.col.0)
        (standard_agrees f.good b.row b.col nr nc
        (λ l. own_cell_apart f.good b.row.0 b.col.0 nr nc
        (omega (arith, f.placed.col_in, size_small b.n f.size)) l
        (⊎_elim (λ h. inl (at b.row.0 f.placed.row_at, h)) (λ h. inr (at b.col.0 f.placed.col_at, h)) side)))

-- of a gather that is not refused
module _ (len : ℕ) (g : LumaRefGeometry) (e : luma_no len g ≡ 0) where
  block_fine : LumaFine (luma_block g)
  block_fine = luma_fine (luma_block g) (luma_passed len g e).1

  pub luma_rule_of : HasRule (luma_has (luma_block g)) g.picture.height g.picture.width
  luma_rule_of = luma_rule (luma_block g) block_fine.good

  pub luma_follows_of : Follows (grid_of g.picture) (luma_at g.bits) g.block_row.0 g.block_col.0 (luma_has (luma_block g))
  luma_follows_of = luma_follows g.bits (luma_block g) block_fine

  pub luma_small : (4 ≤ g.n) × (g.n ≤ 32)
  luma_small = size_small g.n block_fine.size

-- the luma gather gives the neighbours of 6.4.1 and 8.4.4.2.2
pub luma_standard : (plane : List ℕ) (g : LumaRefGeometry) → luma_no (length plane) g ≡ 0
    → Agree g.n (neighbours_of (luma_rows plane g))
    (neighbours (grid_of g.picture) (luma_at g.bits) g.n g.block_col.0 g.block_row.0
    (λ x y. sample_of plane g.picture.width y x))
unfolding luma_rows
luma_standard plane g e =
    let len = length plane in
    gathered_standard (luma_rule_of len g e) (luma_follows_of len g e) (luma_small len g e) (sample_of plane g.picture.width)

-- chroma, in every format and at every CTU, where the current place is the block's own and the unit no wider than the block
chroma_follows : (bits : ℕ) (b : ChromaBlock) → ChromaFine b
    → b.cur_luma_row.0 ≡ b.row.0 * sub_height b.format → b.cur_luma_col.0 ≡ b.col.0 * sub_width b.format
    → b.picture.unit ≤ b.n * sub_width b.format
    → Follows (grid_of b.picture) (component_of b.format bits) b.row.0 b.col.0 (chroma_has b)
chroma_follows bits b f row_own col_own narrow =
    record { wide = (sub-width b.format).0; high = (sub-height b.format).0; tells = tells }
  where
    tells : (nr nc : ℕ) → (nr < b.row.0) ⊎ (nc < b.col.0) → chroma_has b (pos nr) (pos nc)
        ≡ available (grid_of b.picture) (b.col.0 * sub_width b.format) (b.row.0 * sub_height b.format)
        (pos (nc * sub_width b.format)) (pos (nr * sub_height b.format))
    tells nr nc side =
        let p = b.picture in
        let down = sub_height b.format in
        let across = sub_width b.format in
        chroma_agrees b f.good nr nc (ap₂ (number_at p) row_own col_own)
        (λ l. ⊎_elim inl
        (λ h. inr (own_cell_apart f.good (b.row.0 * down) (b.col.0 * across) (nr * down) (nc * across)
        (subst (λ (k : ℕ). k < p.width) col_own f.cur_col) l
        (inr (
          aligned p.unit b.n across b.col.0 f.good.units f.size (step_width b.format) narrow f.placed.col_at,
          mul-lt-mul_of_pos_right h (sub-width b.format).0,
        ))))
        side)

-- the pair gather gives in each plane the neighbours of 6.4.1 and 8.4.4.2.2 of that component
pub chroma_standard : (cb cr : ℕ) (g : ChromaRefGeometry) → chroma_no cb cr g ≡ 0 → OwnPlace g → (plane : List ℕ)
    → Agree g.n (neighbours_of (chroma_rows plane g))
    (neighbours (grid_of (chroma_picture g)) (component_of (format_of g.format) g.bits) g.n g.block_col.0 g.block_row.0
    (λ x y. sample_of plane (chroma_width (chroma_block g)) y x))
unfolding chroma_rows
chroma_standard cb cr g e own plane =
    let b = chroma_block g in
    let f = chroma_fine b (chroma_passed cb cr g e).1 in
    gathered_standard (chroma_rule b f.good) (chroma_follows g.bits b f own.row_own own.col_own own.unit_in)
    (size_small g.n f.size) (sample_of plane (chroma_width b))
