-- The luma gather by which neighbours 6.4.1 marks as available: what an entry holds where its sample is missing, that rows are made of the
-- available samples alone, and what entry 2n and the ones after it depend on. Rests on Standard, Unread and the law of H.265's neighbours.
use Rattle.std.specs.Prelude.{◌≡◌, Bool, true, false, ◌&&◌, List, ltb, ℤ, pos, nat_abs, ◌+ℤ◌, length, get_or, replicate}
use Rattle.std.proofs.Math.Path.{refl, ap}
use Rattle.std.proofs.Common.{sym, ◌∙◌, inl, inr, mul-one, arith, lt-ltb, le-ltb, ltb-true}
use Rattle.std.proofs.Math.Bool.{cond}
use Prim.Native.Nat.{ℕ, zero, suc, ◌+◌, ◌-◌, ◌*◌, ◌≤◌, ◌<◌}
use Rattle.std.proofs.Math.Decide.{dec_lt, ℕ_discrete}
use Rattle.std.proofs.lemmas.List.{get_or-replicate}
use Rattle.laws.specs.Choose.{both_true}
use Rattle.laws.specs.FillLaws.{fill_at, fill_past}
use Rattle.h265.specs.Notation.{−1}
use Rattle.h265.specs.Setting.{luma_at}
use Rattle.h265.specs.Order.{address_at}
use Rattle.h265.specs.Substitution.{first_marked, settled, marked}
use Rattle.h265.specs.Locality.{Beside, Seen}
use Rattle.domain.specs.declared.rows.Rows.{Rows}
use Rattle.domain.specs.rows.Neighbours.{level_rows}
use Rattle.order.specs.Order.{grid_of, number_at, before}
use Rattle.order.specs.Reach.{luma_has}
use Rattle.refs.specs.declared.LumaRefGeometry.{LumaRefGeometry}
use Rattle.refs.specs.substitution.Substitution.{marked_on_line, flags_on, samples_on, from_line, substituted}
use Rattle.refs.specs.substitution.Door.{neutral_at}
use Rattle.refs.specs.Gather.{flags_by, samples_by, gathered_by, sample_of}
use Rattle.refs.specs.Door.{luma_block, luma_no, luma_rows}
use Rattle.refs.specs.standard.Shorter.{clash, found_marked, found_by}
use Rattle.refs.specs.standard.Standard.{on_left, on_corner, on_above, Full, filled, filled_length, mark_is, read_is, back}
use Rattle.refs.specs.standard.Standard.{luma_rule_of, luma_follows_of, luma_small}
use Rattle.refs.specs.standard.Unread.{luma_unread}

-- A line of m places in the end, by the search and the filling of 8.4.4.2.2.
module _ (is : ℕ → Bool) (value : ℕ → ℕ) (m neutral : ℕ) where
  abbrev found : ℕ
  found = first_marked is 0 m

  abbrev in_the_end : ℕ → ℕ
  in_the_end k = cond (ltb found m) (settled is value found k) neutral

  -- a marked place keeps its value
  settled_own : (k : ℕ) → is k ≡ true → settled is value found k ≡ value k
  unfolding settled
  settled_own zero e = rw e refl
  settled_own (suc k) e = rw e refl

  own : (k : ℕ) → k < m → is k ≡ true → in_the_end k ≡ value k
  own k l e = rw (lt-ltb found m (omega (arith, found_by is m k e))) (settled_own k e)

  -- a missing one takes the place before it
  gap : (k : ℕ) → is (suc k) ≡ false → in_the_end (suc k) ≡ in_the_end k
  unfolding settled
  gap k e = ap (λ (v : ℕ). cond (ltb found m) v neutral) (rw e refl)

  -- places before the first marked one take its value
  module _ (j : ℕ) (l : j < m) (e : is j ≡ true) (missing : (i : ℕ) → i < j → is i ≡ false) where
    found_is : found ≡ j
    found_is = go (dec_lt found j)
      where
        up : found ≤ j
        up = found_by is m j e

        go : Dec (found < j) → found ≡ j
        go (yes h) = absurd (clash (found_marked is 0 m (omega (arith, up))) (missing found h))
        go (no h) = omega (arith, up)

    settled_early : (k : ℕ) → k < j → settled is value found k ≡ value j
    unfolding settled
    settled_early zero h = rw (missing 0 h) (ap value found_is)
    settled_early (suc k) h = rw (missing (suc k) h) (settled_early k (omega arith))

    early : (k : ℕ) → k < j → in_the_end k ≡ in_the_end j
    early k h = rw (lt-ltb found m (omega (arith, found_is))) (settled_early k h ∙ sym (settled_own j e))

  none_found : ((k : ℕ) → k < m → is k ≡ false) → ltb found m ≡ false
  none_found missing = go (dec_lt found m)
    where
      go : Dec (found < m) → ltb found m ≡ false
      go (yes h) = absurd (clash (found_marked is 0 m (omega arith)) (missing found h))
      go (no h) = le-ltb found m (omega arith)

-- what stands along the line left[e] down to left[0], corner, above[0] to above[e], by what stands in each part
on_values : {A : Type 0} (f : ℕ → A) (e : ℕ) (l : ℕ → A) (c : A) (u : ℕ → A) → ((i : ℕ) → i ≤ e → l i ≡ f (e - i)) → c ≡ f (e + 1)
    → ((i : ℕ) → i ≤ e → u i ≡ f (e + 2 + i)) → (k : ℕ) → k < 2 * e + 3 → marked_on_line l c u e k ≡ f k
on_values f e l c u hl hc hu k h = go (dec_lt e k) (ℕ_discrete k (e + 1))
  where
    go : Dec (e < k) → Dec (k ≡ e + 1) → marked_on_line l c u e k ≡ f k
    go (no p) _ = on_left l c u e k (e - k) (omega arith) ∙ hl (e - k) (omega arith) ∙ ap f (omega arith)
    go (yes p) (yes q) = on_corner l c u e k q ∙ hc ∙ ap f (sym q)
    go (yes p) (no q) = on_above l c u e k (k - (e + 2)) (omega arith) ∙ hu (k - (e + 2)) (omega arith) ∙ ap f (omega arith)

-- place k of that line: its column and its row from the block's first sample
abbrev pub line_x : ℕ → ℕ → ℤ
line_x e k = marked_on_line (λ (i : ℕ). −1) −1 pos e k

abbrev pub line_y : ℕ → ℕ → ℤ
line_y e k = marked_on_line pos −1 (λ (i : ℕ). −1) e k

on_places : {A : Type 0} (f : ℤ → ℤ → A) (e : ℕ) (l : ℕ → A) (c : A) (u : ℕ → A) → ((i : ℕ) → i ≤ e → l i ≡ f −1 (pos i)) → c ≡ f −1 −1
    → ((i : ℕ) → i ≤ e → u i ≡ f (pos i) −1) → (k : ℕ) → k < 2 * e + 3 → marked_on_line l c u e k ≡ f (line_x e k) (line_y e k)
on_places f e l c u hl hc hu =
    on_values (λ (k : ℕ). f (line_x e k) (line_y e k)) e l c u
    (λ i h.
    let k : e - i + i ≡ e = omega arith in
    rw (on_left (λ (i : ℕ). −1) −1 pos e (e - i) i k, on_left pos −1 (λ (i : ℕ). −1) e (e - i) i k) (hl i h))
    (rw (on_corner (λ (i : ℕ). −1) −1 pos e (e + 1) refl, on_corner pos −1 (λ (i : ℕ). −1) e (e + 1) refl) hc)
    (λ i h. rw (on_above (λ (i : ℕ). −1) −1 pos e (e + 2 + i) i refl, on_above pos −1 (λ (i : ℕ). −1) e (e + 2 + i) i refl) (hu i h))

-- rows that a line gives, at the line's places
line_at : (b : Bool) (e neutral : ℕ) (f : ℕ → ℕ) (rows : Rows) → e ≤ 64 → Full rows → (k : ℕ) → k < 2 * e + 3
    → samples_on (cond b (from_line e f rows) (level_rows neutral)) e k ≡ cond b (f k) neutral
line_at true e neutral f rows h full =
    on_values f e _ _ _ (λ i l. fill_at _ (e + 1) rows.left i 0 (omega arith) (omega (arith, full.left))) refl
    (λ i l. fill_at _ (e + 1) rows.above i 0 (omega arith) (omega (arith, full.above)))
line_at false e neutral f rows h full =
    on_values (λ (k : ℕ). neutral) e _ _ _ (λ i l. get_or-replicate 65 i neutral 0 (omega arith)) refl
    (λ i l. get_or-replicate 65 i neutral 0 (omega arith))

-- A luma block of a picture. Whether 6.4.1 marks its neighbour in column x and row y from its first sample as available, and the sample
-- there.
abbrev marked_by : LumaRefGeometry → ℤ → ℤ → Bool
marked_by g = marked (grid_of g.picture) (luma_at g.bits) g.block_col.0 g.block_row.0

abbrev sample_by : List ℕ → LumaRefGeometry → ℤ → ℤ → ℕ
sample_by plane g x y = sample_of plane g.picture.width (nat_abs (pos g.block_row.0 +ℤ y)) (nat_abs (pos g.block_col.0 +ℤ x))

-- the same of place k of its line, of 4n + 3 places
abbrev pub marked_on : LumaRefGeometry → ℕ → Bool
marked_on g k = marked_by g (line_x (2 * g.n) k) (line_y (2 * g.n) k)

abbrev pub sample_on : List ℕ → LumaRefGeometry → ℕ → ℕ
sample_on plane g k = sample_by plane g (line_x (2 * g.n) k) (line_y (2 * g.n) k)

-- The gather of such a block: which neighbours are there by document 01's rule, and their samples, before substitution.
module _ (plane : List ℕ) (g : LumaRefGeometry) where
  abbrev row : ℕ
  row = g.block_row.0

  abbrev col : ℕ
  col = g.block_col.0

  abbrev sample : ℕ → ℕ → ℕ
  sample = sample_of plane g.picture.width

  abbrev rows : Rows
  rows = samples_by (luma_has (luma_block g)) sample row col g.n

  abbrev places : ℕ
  places = 2 * (2 * g.n) + 3

  abbrev is : ℕ → Bool
  is = flags_on (flags_by (luma_has (luma_block g)) row col g.n) (2 * g.n)

  abbrev value : ℕ → ℕ
  value = samples_on rows (2 * g.n)

  -- entries past 2n are all 0, or all neutral where nothing is there: they go by no sample
  past_end : (b : Bool) (f : ℕ → ℕ) (i : ℕ) → 2 * g.n < i → let neutral = neutral_at g.bits in
      let given = cond b (from_line (2 * g.n) f rows) (level_rows neutral) in
      let past = get_or (cond b (replicate 65 0) (replicate 65 neutral)) i 0 in
      (get_or given.above i 0 ≡ past) × (get_or given.left i 0 ≡ past)
  past_end true f i h =
      let more = 2 * g.n + 1 in (
        fill_past _ more rows.above i 0 (omega arith) ∙ fill_past _ more (replicate 65 0) i 0 (omega arith),
        fill_past _ more rows.left i 0 (omega arith) ∙ fill_past _ more (replicate 65 0) i 0 (omega arith),
      )
  past_end false f i h = (refl, refl)

  luma_past : (i : ℕ) → 2 * g.n < i
      → let past = get_or (cond (ltb (first_marked is 0 places) places) (replicate 65 0) (replicate 65 (neutral_at g.bits))) i 0 in
      (get_or (luma_rows plane g).above i 0 ≡ past) × (get_or (luma_rows plane g).left i 0 ≡ past)
  unfolding luma_rows gathered_by substituted
  luma_past i h = past_end (ltb (first_marked is 0 places) places) (settled is value (first_marked is 0 places)) i h

  -- THE LAW of what is missing, for a gather that is not refused
  module _ (no_is : luma_no (length plane) g ≡ 0) where
    abbrev len : ℕ
    len = length plane

    small : g.n ≤ 32
    small = (luma_small len g no_is).1

    -- its flags are 6.4.1's, and its samples the plane's
    is_marked : (k : ℕ) → k < places → is k ≡ marked_on g k
    is_marked =
        let there = mark_is (luma_rule_of len g no_is) (luma_follows_of len g no_is) (luma_small len g no_is) sample in
        on_places (marked_by g) (2 * g.n) _ _ _
        (λ i l. filled _ false g.n i small l ∙ there −1 (pos i) (inr refl))
        (there −1 −1 (inl refl))
        (λ i l. filled _ false g.n i small l ∙ there (pos i) −1 (inl refl))

    value_is : (k : ℕ) → k < places → value k ≡ cond (marked_on g k) (sample_on plane g k) 0
    value_is =
        let read = read_is (luma_rule_of len g no_is) (luma_follows_of len g no_is) (luma_small len g no_is) sample in
        on_places (λ (x y : ℤ). cond (marked_by g x y) (sample_by plane g x y) 0) (2 * g.n) _ _ _
        (λ i l. filled _ 0 g.n i small l ∙ read −1 (pos i) (row + i) (col - 1) (inr refl) (λ e. refl) (back col))
        (read −1 −1 (row - 1) (col - 1) (inl refl) (back row) (back col))
        (λ i l. filled _ 0 g.n i small l ∙ read (pos i) −1 (row - 1) (col + i) (inl refl) (back row) (λ e. refl))

    -- the rows along the line
    abbrev entry : ℕ → ℕ
    entry = samples_on (luma_rows plane g) (2 * g.n)

    entry_is : (k : ℕ) → k < places → entry k ≡ in_the_end is value places (neutral_at g.bits) k
    unfolding luma_rows gathered_by substituted
    entry_is =
        let found = first_marked is 0 places in
        line_at (ltb found places) (2 * g.n) (neutral_at g.bits) (settled is value found) rows (omega (arith, small))
        (record { above = filled_length _ (2 * g.n + 1); left = filled_length _ (2 * g.n + 1) })

    -- an available neighbour is the plane's sample, whatever that is
    pub present : (k : ℕ) → k < 4 * g.n + 3 → marked_on g k ≡ true → entry k ≡ sample_on plane g k
    present k h e =
        let l : k < places = omega arith in
        entry_is k l ∙ own is value places (neutral_at g.bits) k l (is_marked k l ∙ e) ∙ value_is k l ∙ rw e refl

    -- entries before the first available one take its value
    pub before_first : (j : ℕ) → j < 4 * g.n + 3 → marked_on g j ≡ true → ((i : ℕ) → i < j → marked_on g i ≡ false)
        → (k : ℕ) → k < j → entry k ≡ entry j
    before_first j h e missing k m =
        let l : j < places = omega arith in
        entry_is k (omega arith)
        ∙ early is value places (neutral_at g.bits) j l (is_marked j l ∙ e) (λ i b. is_marked i (omega arith) ∙ missing i b) k m
        ∙ sym (entry_is j l)

    -- each missing one takes the entry before it
    pub later_gap : (k : ℕ) → suc k < 4 * g.n + 3 → marked_on g (suc k) ≡ false → entry (suc k) ≡ entry k
    later_gap k h e =
        let l : suc k < places = omega arith in
        entry_is (suc k) l ∙ gap is value places (neutral_at g.bits) k (is_marked (suc k) l ∙ e) ∙ sym (entry_is k (omega arith))

    -- where none is available all is neutral, entries past 2n too
    pub none_there : ((k : ℕ) → k < 4 * g.n + 3 → marked_on g k ≡ false) → luma_rows plane g ≡ level_rows (neutral_at g.bits)
    unfolding luma_rows gathered_by substituted
    none_there missing =
        rw (none_found is value places 0 (λ k l. is_marked k l ∙ missing k (omega arith))) refl

-- entries past 2n are the same over any two planes
pub luma_past_end : (g : LumaRefGeometry) (p q : List ℕ) (i : ℕ) → 2 * g.n < i
    → (get_or (luma_rows p g).above i 0 ≡ get_or (luma_rows q g).above i 0) × (get_or (luma_rows p g).left i 0 ≡ get_or (luma_rows q g).left i 0)
luma_past_end g p q i h =
    let a = luma_past p g i h in
    let b = luma_past q g i h in
    (a.0 ∙ sym b.0, a.1 ∙ sym b.1)

-- THE LAW of what is read, by 6.4.1. What the rule of document 01 says is there is available.
seen_of : (g : LumaRefGeometry) (r c : ℕ) → luma_has (luma_block g) (pos r) (pos c) ≡ true
    → Seen (grid_of g.picture) (luma_at g.bits) g.block_col.0 g.block_row.0 c r
unfolding before number_at
seen_of g r c e =
    let p = g.picture in
    let col = g.block_col.0 in
    let row = g.block_row.0 in
    let a = both_true (ltb r p.height && ltb c p.width) _ e in
    let d = both_true (ltb r p.height) (ltb c p.width) a.0 in
    let less : address_at (grid_of p) c r < address_at (grid_of p) col row = ltb-true _ _ a.1 in
    record {
      column = rw (mul-one c) (ltb-true c p.width d.1);
      row = rw (mul-one r) (ltb-true r p.height d.0);
      earlier = rw (mul-one c, mul-one r, mul-one col, mul-one row) (omega (arith, less));
    }

-- planes that agree at the available ones of the corner and entries 0 to 2n give the same rows, all 65 entries
pub luma_available : (g : LumaRefGeometry) (p q : List ℕ) → let w = g.picture.width in
    ((x y : ℕ) → Beside (2 * g.n + 1) g.block_col.0 g.block_row.0 x y
    → Seen (grid_of g.picture) (luma_at g.bits) g.block_col.0 g.block_row.0 x y → sample_of p w y x ≡ sample_of q w y x)
    → luma_rows p g ≡ luma_rows q g
luma_available g p q same = luma_unread g p q (λ r c near e. same c r near (seen_of g r c e))
