-- What a block's neighbours are read from, by 6.4.1 and 8.4.4.2.2: the samples beside the block that are marked as available, and nothing
-- else, whatever they hold. Two pictures of a component that agree there have the same neighbours in the end, and predict the same block.
-- Rests on the clauses alone. Assumes nothing.
use Rattle.std.specs.Prelude.{◌≡◌, Bool, true, false, cond, not, ◌&&◌, ◌⊎◌, leb, ltb, ℕ, zero, suc, ◌+◌, ◌-◌, ◌*◌, ◌≤◌, ◌<◌, ℤ, pos, negsuc, nat_abs, neg_ℤ, ◌+ℤ◌, ◌*ℤ◌}
use Rattle.std.proofs.Math.Path.{refl, ap}
use Rattle.std.proofs.Common.{sym, ◌∙◌, ⊎_elim, mul-pos, arith}
use Rattle.std.proofs.lemmas.Bool.{false≢true}
use Rattle.std.proofs.Math.Logic.{inl, inr}
use Rattle.std.proofs.Math.IntN.{pos-ne-negsuc}
use borrow.Author.Tests.{ltb-true, ltb-false, le-ltb, leb-true, leb-false}
use Rattle.h265.specs.Notation.{−1, Neighbours}
use Rattle.h265.specs.Setting.{Grid, Component, CodingFlags}
use Rattle.h265.specs.Availability.{available}
use Rattle.h265.specs.Substitution.{place_x, place_y, first_marked, settled, substituted_at, marked, neighbours}
use Rattle.h265.specs.Prediction.{pred_samples, predicted}
use Rattle.h265.specs.Mean.{Agree}
use Rattle.h265.specs.Locality.{OnEdge, Beside, Seen}

-- A sample is in column x and row y of its component; the block's first one is (xTb, yTb). The law is at the end: neighbours_agree and
-- predicted_local.

-- of two numbers, the one that a test picks
picked : (b : Bool) {x y x' y' : ℕ} → (b ≡ true → x ≡ x') → y ≡ y' → cond b x y ≡ cond b x' y'
picked true p q = p refl
picked false p q = q

-- the place that is found is marked
here_or_on : (is : ℕ → Bool) (b : Bool) (k m next : ℕ) → is k ≡ b → cond b k next < m → (next < m → is next ≡ true)
    → is (cond b k next) ≡ true
here_or_on is true k m next e l on = e
here_or_on is false k m next e l on = on l

found_marked : (is : ℕ → Bool) (k m : ℕ) → first_marked is k m < k + m → is (first_marked is k m) ≡ true
unfolding first_marked
found_marked is k zero h = absurd (omega arith)
found_marked is k (suc m) h =
    here_or_on is (is k) k (k + suc m) (first_marked is (suc k) m) refl h (λ l. found_marked is (suc k) m (omega arith))

-- values that agree at the marked places up to top agree after substitution at every place up to top
module _ (is : ℕ → Bool) (s t : ℕ → ℕ) (top : ℕ) (same : (j : ℕ) → j ≤ top → is j ≡ true → s j ≡ t j) where
  start_same : (b : Bool) (found : ℕ) → is 0 ≡ b → found ≤ top → is found ≡ true → s (cond b 0 found) ≡ t (cond b 0 found)
  start_same true found e l h = same 0 (omega arith) e
  start_same false found e l h = same found l h

  settled_same : (found : ℕ) → found ≤ top → is found ≡ true → (k : ℕ) → k ≤ top → settled is s found k ≡ settled is t found k
  unfolding settled
  settled_same found l h zero m = start_same (is 0) found refl l h
  settled_same found l h (suc k) m = picked (is (suc k)) (same (suc k) m) (settled_same found l h k (omega arith))

  -- of m places, none past top
  found_same : (m neutral k : ℕ) → m ≤ suc top → k ≤ top → let found = first_marked is 0 m in
      cond (ltb found m) (settled is s found k) neutral ≡ cond (ltb found m) (settled is t found k) neutral
  found_same m neutral k h l =
      let found = first_marked is 0 m in
      picked (ltb found m)
      (λ e. let b = ltb-true found m e in settled_same found (omega arith) (found_marked is 0 m (omega arith)) k l)
      refl

  substituted_same : (bits n k : ℕ) → 4 * n ≤ top → k ≤ top → substituted_at bits n is s k ≡ substituted_at bits n is t k
  unfolding substituted_at
  substituted_same bits n k h l = found_same _ _ k (omega arith) l

-- The law by places. Samples s and t of one component are compared at the block's places that are marked.
module _ (g : Grid) (c : Component) (n xTb yTb : ℕ) (s t : ℕ → ℕ → ℕ) where
  -- a picture's sample at place k, and whether the place is marked
  abbrev by : (ℕ → ℕ → ℕ) → ℕ → ℕ
  by p k = p (nat_abs (pos xTb +ℤ place_x n k)) (nat_abs (pos yTb +ℤ place_y n k))

  abbrev marked_at : ℕ → Bool
  marked_at k = marked g c xTb yTb (place_x n k) (place_y n k)

  -- agreement at the 4n + 1 places
  places_agree : ((k : ℕ) → k < 4 * n + 1 → marked_at k ≡ true → by s k ≡ by t k)
      → Agree n (neighbours g c n xTb yTb s) (neighbours g c n xTb yTb t)
  unfolding neighbours
  places_agree same =
      record {
        corner = at (2 * n) (omega arith);
        above = λ i h. at (2 * n + 1 + i) (omega arith);
        left = λ i h. at (2 * n - 1 - i) (omega arith);
      }
    where
      at : (k : ℕ) → k ≤ 4 * n → substituted_at c.bits n marked_at (by s) k ≡ substituted_at c.bits n marked_at (by t) k
      at k h = substituted_same marked_at (by s) (by t) (4 * n) (λ j l e. same j (omega arith) e) c.bits n k (omega arith) h

  -- and at those further along the row above too: the neighbours are the same at every entry
  places_same : ((k : ℕ) → marked_at k ≡ true → by s k ≡ by t k) → neighbours g c n xTb yTb s ≡ neighbours g c n xTb yTb t
  unfolding neighbours
  places_same same = λ i. record { corner = at (2 * n) i; above = λ x. at (2 * n + 1 + x) i; left = λ y. at (2 * n - 1 - y) i }
    where
      at : (k : ℕ) → substituted_at c.bits n marked_at (by s) k ≡ substituted_at c.bits n marked_at (by t) k
      at k = substituted_same marked_at (by s) (by t) (4 * n + k) (λ j l e. same j e) c.bits n k (omega arith) (omega arith)

-- A place that is marked is a sample: its column and row are not below 0, and 6.4.1 says of it what it says of the sample.
below_none : (g : Grid) (x y m : ℕ) (w : ℤ) → 0 < m → available g x y (neg_ℤ (pos m)) w ≡ false
unfolding available
below_none g x y zero w h = absurd (omega arith)
below_none g x y (suc m) w h = refl

above_none : (g : Grid) (x y a m : ℕ) → 0 < m → available g x y (pos a) (neg_ℤ (pos m)) ≡ false
unfolding available
above_none g x y a zero h = absurd (omega arith)
above_none g x y a (suc m) h = refl

both : (a b : Bool) → (a && b) ≡ true → (a ≡ true) × (b ≡ true)
both true b e = (refl, e)
both false b e = absurd (false≢true e)

not_less : (a b : ℕ) → not (ltb a b) ≡ true → b ≤ a
not_less a b e = go (ltb a b) refl e
  where
    go : (t : Bool) → ltb a b ≡ t → not t ≡ true → b ≤ a
    go true q p = absurd (false≢true p)
    go false q p = ltb-false a b q

record Sample (g : Grid) (c : Component) (xTb yTb : ℕ) (z v : ℤ) : Type 0 where
  column_whole : z ≡ pos (nat_abs z)
  row_whole : v ≡ pos (nat_abs v)
  there : Seen g c xTb yTb (nat_abs z) (nat_abs v)

module _ (g : Grid) (c : Component) (xTb yTb : ℕ) (wide : 0 < c.sub_width) (high : 0 < c.sub_height) where
  abbrev available_at : ℤ → ℤ → Bool
  available_at z v = available g (xTb * c.sub_width) (yTb * c.sub_height) (z *ℤ pos c.sub_width) (v *ℤ pos c.sub_height)

  sample-of : (z v : ℤ) → available_at z v ≡ true → Sample g c xTb yTb z v
  unfolding available
  sample-of (pos a) (pos b) e =
      let p = both (ltb (a * c.sub_width) g.width && ltb (b * c.sub_height) g.height) _ e in
      let q = both (ltb (a * c.sub_width) g.width) (ltb (b * c.sub_height) g.height) p.0 in
      record {
        column_whole = refl;
        row_whole = refl;
        there = record { column = ltb-true _ _ q.0; row = ltb-true _ _ q.1; earlier = not_less _ _ p.1 };
      }
  sample-of (pos a) (negsuc b) e =
      let none = above_none g (xTb * c.sub_width) (yTb * c.sub_height) (a * c.sub_width) (suc b * c.sub_height) in
      absurd (false≢true (sym (none (mul-pos (omega arith) high)) ∙ e))
  sample-of (negsuc a) v e =
      let none = below_none g (xTb * c.sub_width) (yTb * c.sub_height) (suc a * c.sub_width) (v *ℤ pos c.sub_height) in
      absurd (false≢true (sym (none (mul-pos (omega arith) wide)) ∙ e))

-- one back from a column or a row
back : (a b : ℕ) → pos a +ℤ −1 ≡ pos b → b + 1 ≡ a
back zero b e = absurd (pos-ne-negsuc b 0 (sym e))
back (suc a) b e = omega (arith, ap nat_abs (rw (le-ltb (suc a) 1 (omega arith)) at e))

-- the column and the row of place k
abbrev ColumnIs : ℕ → ℕ → ℕ → ℕ → Type 0
ColumnIs xTb n k x = ((k ≤ 2 * n) × (x + 1 ≡ xTb)) ⊎ ((2 * n < k) × (x + (2 * n + 1) ≡ xTb + k))

column_is : (xTb n k x : ℕ) → pos xTb +ℤ place_x n k ≡ pos x → ColumnIs xTb n k x
column_is xTb n k x e = go (leb k (2 * n)) refl e
  where
    go : (b : Bool) → leb k (2 * n) ≡ b → pos xTb +ℤ cond b −1 (pos (k - (2 * n + 1))) ≡ pos x → ColumnIs xTb n k x
    go true q p = inl (leb-true k (2 * n) q, back xTb x p)
    go false q p = let l = leb-false k (2 * n) q in inr (l, omega (arith, ap nat_abs p))

abbrev RowIs : ℕ → ℕ → ℕ → ℕ → Type 0
RowIs yTb n k y = ((k < 2 * n) × (y + 1 + k ≡ yTb + 2 * n)) ⊎ ((2 * n ≤ k) × (y + 1 ≡ yTb))

row_is : (yTb n k y : ℕ) → pos yTb +ℤ place_y n k ≡ pos y → RowIs yTb n k y
row_is yTb n k y e = go (ltb k (2 * n)) refl e
  where
    go : (b : Bool) → ltb k (2 * n) ≡ b → pos yTb +ℤ cond b (pos (2 * n - 1 - k)) −1 ≡ pos y → RowIs yTb n k y
    go true q p = let l = ltb-true k (2 * n) q in inl (l, omega (arith, ap nat_abs p))
    go false q p = inr (ltb-false k (2 * n) q, back yTb y p)

-- where place k is, by column and row: left of the block, or above it with its column counted by k
spot : (n xTb yTb k x y : ℕ) → pos xTb +ℤ place_x n k ≡ pos x → pos yTb +ℤ place_y n k ≡ pos y
    → ((x + 1 ≡ xTb) × (yTb ≤ y + 1) × (y < yTb + 2 * n)) ⊎ ((y + 1 ≡ yTb) × (xTb ≤ x) × (x + (2 * n + 1) ≡ xTb + k))
spot n xTb yTb k x y p q =
    ⊎_elim
    (λ a. ⊎_elim (λ b. inl (a.1, omega arith, omega arith)) (λ b. inl (a.1, omega arith, omega arith)) (row_is yTb n k y q))
    (λ a. ⊎_elim (λ b. absurd (omega arith)) (λ b. inr (b.1, omega arith, a.1)) (row_is yTb n k y q))
    (column_is xTb n k x p)

-- THE LAW, by columns and rows. s and t are two pictures of one component.
module _ (g : Grid) (c : Component) (n xTb yTb : ℕ) (s t : ℕ → ℕ → ℕ) (wide : 0 < c.sub_width) (high : 0 < c.sub_height) where
  sample-at : (k : ℕ) → marked_at g c n xTb yTb s t k ≡ true → Sample g c xTb yTb (pos xTb +ℤ place_x n k) (pos yTb +ℤ place_y n k)
  unfolding marked
  sample-at k e = sample-of g c xTb yTb wide high _ _ e

  -- Where they agree at each of the 4n + 1 neighbours that is available, the neighbours agree after substitution.
  pub neighbours_agree : ((x y : ℕ) → Beside (2 * n) xTb yTb x y → Seen g c xTb yTb x y → s x y ≡ t x y)
      → Agree n (neighbours g c n xTb yTb s) (neighbours g c n xTb yTb t)
  neighbours_agree same =
      places_agree g c n xTb yTb s t
      (λ k l e.
      let a = sample-at k e in
      same _ _
      (⊎_elim (λ u. inl u) (λ u. inr (u.0, omega arith, omega arith)) (spot n xTb yTb k _ _ a.column_whole a.row_whole))
      a.there)

  -- Where they agree at every available sample of the column left of the block and of the row above it, all is predicted alike: for any
  -- side, mode and flags, in the block and out of it.
  pub predicted_local : ((x y : ℕ) → OnEdge xTb yTb x y → Seen g c xTb yTb x y → s x y ≡ t x y)
      → (f : CodingFlags) (mode x y : ℕ) → predicted g c f n mode xTb yTb s x y ≡ predicted g c f n mode xTb yTb t x y
  unfolding predicted
  predicted_local same f mode x y =
      ap (λ (nb : Neighbours). pred_samples c f n mode nb x y)
      (places_same g c n xTb yTb s t
      (λ k e.
      let a = sample-at k e in
      same _ _ (⊎_elim (λ u. inl u.0) (λ u. inr u.0) (spot n xTb yTb k _ _ a.column_whole a.row_whole)) a.there))
