-- The running count decides exactly whether a plan is good, block by block: the blocks so far cover the samples with fewer
-- samples ahead of them than these blocks hold. Assumes nothing.
use Rattle.std.specs.Prelude.{◌≡◌, refl, true, ◌↔◌}
use Rattle.std.proofs.Common.{sym, ◌∙◌, subst, div-lt_iff_lt-mul, div-add-mod', mod-lt, eq-or-lt_of_le, le_of_suc-le-suc, pow_pos, pow-add}
use Rattle.std.proofs.Math.Path.{ap}
use Rattle.std.proofs.Math.Logic.{⊎_elim}
use Prim.Native.Nat.{ℕ, zero, suc, ◌+◌, ◌-◌, ◌*◌, ◌/◌, ◌%◌, ◌^◌, ◌≤◌, ◌<◌}
use Rattle.std.proofs.Math.Nat.{pow-le-pow_right, div-eq_of_lt-le}
use native.Mathlib.Omega.{arith}
use Rattle.std.proofs.Math.Decide.{dec_lt, ℕ_discrete}
use borrow.Author.Tests.{lt-ltb}
use Rattle.domain.specs.Facts.{at_size}
use Rattle.order.specs.CellWalk.{dbl}
use Rattle.order.specs.Good.{Good, sized, ctus_cover}
use Rattle.order.specs.order_laws.Laws.{block_in, block_only}
use Rattle.plan.specs.declared.tiling.Frame.{Frame}
use Rattle.plan.specs.declared.tiling.Block.{Block}
use Rattle.plan.specs.tiling.Tiling.{picture_of, In, cell_at, Of, Covered, Placed, Next, GoodPlan, place}
use Rattle.plan.specs.tiling.Check.{ahead}
use Rattle.plan.specs.tiling.Cell.{cell_row, cell_col, col_of_lt}
use Rattle.plan.specs.tiling.Count.{cnt, cnt_all, cnt_mono, cnt_up, cnt_meets, from_start}
use Rattle.plan.specs.tiling.Area.{deep, across, inside, numbers, w_pos, num_inside, num_lt, is_num, inside_num, picture_area}
use Rattle.plan.specs.tiling.Area.{cnt_most, ahead_is}

-- the cells of a block of side n
abbrev cells : ℕ → ℕ
cells n = n * n / 16

pow_le : (j k : ℕ) → 2 ^ j ≤ 2 ^ k → j ≤ k
pow_le j k h = go (dec_lt k j)
  where
    go : Dec (k < j) → j ≤ k
    go (yes l) =
        let m : 2 ^ suc k ≤ 2 ^ j = pow-le-pow_right (omega arith) l in
        absurd (omega (arith, dbl 1 k, pow_pos k))
    go (no n) = omega arith

-- a side as a power of two
record Level (k n : ℕ) : Type 0 where
  j : ℕ
  rest : ℕ
  side : 4 * 2 ^ j ≡ n
  run : 4 ^ j ≡ cells n
  area : n * n ≡ 16 * cells n
  whole : j + rest ≡ k

-- a sample within n of a multiple of n, and back
quot_in : (n a v : ℕ) → a % n ≡ 0 → a ≤ v → v < a + n → v / n ≡ a / n
quot_in n a v e l h = div-eq_of_lt-le {k = a / n} n {m = v} (omega (arith, div-add-mod' a n)) (omega (arith, div-add-mod' a n))

in_quot : (n a v : ℕ) → 0 < n → a % n ≡ 0 → v / n ≡ a / n → (a ≤ v) × (v < a + n)
in_quot n a v pos e q =
    omega (arith, div-add-mod' a n, div-add-mod' v n, mod-lt v pos, ap (λ (u : ℕ). u * n) q)

-- a block's residuals end where a later block's begin, or before
pub place_up : (plan : ℕ → Block) (i k : ℕ) → i < k → place plan i + (plan i).side * (plan i).side ≤ place plan k
unfolding place
place_up plan i zero h = absurd (omega arith)
place_up plan i (suc k) h =
    ⊎_elim
    (λ e. let q = ap (λ (j : ℕ). place plan j + (plan j).side * (plan j).side) e in omega arith)
    (λ l. omega (arith, place_up plan i k l))
    (eq-or-lt_of_le (le_of_suc-le-suc h))

-- a block's samples are a run of numbers, and so of counts
module _ {f : Frame} (g : Good (picture_of f)) (b : Block) (p : Placed f b) where
  v : Level (deep f) b.side
  v = at_size (λ (n : ℕ). n ≤ 4 * 2 ^ deep f → Level (deep f) n) (at 0 4 refl refl refl) (at 1 8 refl refl refl) (at 2 16 refl refl refl)
      (at 3 32 refl refl refl) b.side p.size (omega (arith, p.small, (sized g).split))
    where
      at : (j n : ℕ) → 4 * 2 ^ j ≡ n → 4 ^ j ≡ cells n → n * n ≡ 16 * cells n → n ≤ 4 * 2 ^ deep f → Level (deep f) n
      at j n s r a h =
          let l : j ≤ deep f = pow_le j (deep f) (omega arith) in
          record { j = j; rest = deep f - j; side = s; run = r; area = a; whole = omega arith }

  abbrev first : ℕ
  first = cell_at f b.row b.col

  side_pos : 0 < b.side
  side_pos = omega (arith, pow_pos v.j, v.side)

  pub first_in : In f b.row b.col
  first_in = let s = side_pos in (omega (arith, p.row_in), omega (arith, p.col_in))

  ctu_is : 2 ^ v.rest * b.side ≡ f.ctu
  ctu_is = omega (
    arith,
    (sized g).split,
    pow-add 2 v.j v.rest,
    ap (λ (u : ℕ). 2 ^ v.rest * u) v.side,
    ap (λ (u : ℕ). 2 ^ u)
        v.whole,
  )

  -- a sample of the block has a number of the run
  of_run : (r c : ℕ) → Of b r c → (first ≤ cell_at f r c) × (cell_at f r c < first + cells b.side)
  of_run r c o =
      let i = block_in g b.side v.j v.rest b.row b.col r c v.side v.whole p.row_at p.col_at
      (quot_in b.side b.row r p.row_at o.top o.bottom) (quot_in b.side b.col c p.col_at o.left o.right) in
      omega (arith, i, v.run)

  -- and only the block's samples, of the picture's CTUs, have them
  run_of : (r c : ℕ) → c < across f * f.ctu → first ≤ cell_at f r c → cell_at f r c < first + cells b.side → Of b r c
  run_of r c i low high =
      let cover = ctus_cover g in
      let wide = ap (λ (u : ℕ). across f * u) ctu_is in
      let pos = side_pos in
      let e = v.run in
      let q = block_only g b.side v.j v.rest b.row b.col r c v.side v.whole p.row_at p.col_at
      ((div-lt_iff_lt-mul pos).1 (omega (arith, p.col_in))) ((div-lt_iff_lt-mul pos).1 (omega arith)) low (omega arith) in
      let x = in_quot b.side b.row r pos p.row_at q.0 in
      let y = in_quot b.side b.col c pos p.col_at q.1 in
      record { top = x.0; bottom = x.1; left = y.0; right = y.1 }

  run_inside : (m : ℕ) → first ≤ m → m < first + cells b.side → inside f m ≡ true
  unfolding inside
  run_inside m low high =
      let r = 4 * cell_row (deep f) (across f) m in
      let c = 4 * cell_col (deep f) (across f) m in
      let e : cell_at f r c ≡ m = is_num g m in
      let o = run_of r c (omega (arith, col_of_lt (deep f) (across f) m (w_pos g), ap (λ (u : ℕ). across f * u) (sized g).split))
      (omega arith) (omega arith) in
      simp (lt-ltb r f.height (omega (arith, o.bottom, p.row_in)), lt-ltb c f.width (omega (arith, o.right, p.col_in)))

  -- each of the run is counted
  counted : (d : ℕ) → d ≤ cells b.side → cnt (inside f) 0 (first + d) ≡ cnt (inside f) 0 first + d
  counted d h =
      from_start (inside f) first d
      ∙ ap (λ (u : ℕ). cnt (inside f) 0 first + u) (cnt_all (inside f) first d (λ i l m. run_inside i l (omega arith)))

  abbrev start : ℕ
  start = ahead f b.row b.col

  start_is : start ≡ 16 * cnt (inside f) 0 first
  start_is = ahead_is g b.row b.col first_in

  pub of_ahead : (r c : ℕ) → Of b r c → (start ≤ ahead f r c) × (ahead f r c < start + b.side * b.side)
  of_ahead r c o =
      let n = of_run r c o in
      let d = cell_at f r c - first in
      let e : cell_at f r c ≡ first + d = omega arith in
      let i : In f r c = (omega (arith, o.bottom, p.row_in), omega (arith, o.right, p.col_in)) in
      omega (arith, start_is, v.area, ahead_is g r c i, ap (cnt (inside f) 0) e, counted d (omega arith))

  pub ahead_of : (r c : ℕ) → In f r c → start ≤ ahead f r c → ahead f r c < start + b.side * b.side → Of b r c
  ahead_of r c i low high = go (dec_lt (cell_at f r c) first) (dec_lt (cell_at f r c) (first + cells b.side))
    where
      go : Dec (cell_at f r c < first) → Dec (cell_at f r c < first + cells b.side) → Of b r c
      go (yes l) _ = absurd (omega (arith, start_is, ahead_is g r c i, cnt_up (inside f) (cell_at f r c) first (num_inside g r c i) l))
      go (no l) (yes m) = run_of r c (omega (arith, i.1, (ctus_cover g).0)) (omega arith) m
      go (no l) (no m) =
          absurd (omega (
            arith,
            start_is,
            v.area,
            ahead_is g r c i,
            counted (cells b.side) (omega arith),
            cnt_mono (inside f)
                (first + cells b.side) (cell_at f r c) (omega arith),
          ))

  pub block_area : (b.side * b.side % 16 ≡ 0) × (start + b.side * b.side ≤ f.height * f.width)
  block_area = (
    omega (arith, v.area),
    omega (
      arith,
      start_is,
      v.area,
      picture_area g,
      counted (cells b.side) (omega arith),
      cnt_most
          g (first + cells b.side),
    ),
  )

module _ {f : Frame} (g : Good (picture_of f)) where
  -- the count goes as the number, stays below the picture's area, and meets each whole number of cells below that
  ahead_up : (r c r' c' : ℕ) → In f r c → In f r' c' → cell_at f r c < cell_at f r' c' → ahead f r c < ahead f r' c'
  ahead_up r c r' c' i j l = omega (
    arith,
    ahead_is g r c i,
    ahead_is g r' c' j,
    cnt_up (inside f) (cell_at f r c) (cell_at f r' c')
        (num_inside g r c i) l,
  )

  pub ahead_lt : (r c : ℕ) → In f r c → ahead f r c < f.height * f.width
  ahead_lt r c i = omega (
    arith,
    ahead_is g r c i,
    picture_area g,
    cnt_up (inside f) (cell_at f r c) (numbers f) (num_inside g r c i)
        (num_lt g r c i),
  )

  ahead_meets : (a : ℕ) → a % 16 ≡ 0 → a < f.height * f.width → (r : ℕ) × (c : ℕ) × In f r c × (ahead f r c ≡ a)
  ahead_meets a e h =
      let s = cnt_meets (inside f) (numbers f) (a / 16) (omega (arith, picture_area g)) in
      let t = inside_num g s.0 s.2 in
      (t.0, t.1, t.2, omega (arith, ahead_is g t.0 t.1 t.2, ap (cnt (inside f) 0) t.3, s.3))

  module _ (plan : ℕ → Block) where
    abbrev before : ℕ → ℕ
    before n = ahead f (plan n).row (plan n).col

    -- what code finds of the first n blocks
    abbrev pub Checked : ℕ → Type 0
    Checked n = (i : ℕ) → i < n → Placed f (plan i) × (before i ≡ place plan i)

    abbrev All : ℕ → Type 0
    All n = (r c : ℕ) → In f r c → Covered plan n r c

    -- they cover the samples with fewer samples ahead than they hold, and no other
    covered_below : (n : ℕ) → Checked n → (r c : ℕ) → Covered plan n r c → ahead f r c < place plan n
    unfolding place
    covered_below zero h r c s = absurd (omega (arith, s.1))
    covered_below (suc n) h r c s =
        ⊎_elim
        (λ e. omega (
          arith,
          of_ahead g (plan n) (h n (omega arith)).0 r c (subst (λ (i : ℕ). Of (plan i) r c) e s.2),
          (h n
              (omega arith)).1,
        ))
        (λ l. omega (arith, covered_below n (λ i m. h i (omega arith)) r c (s.0, l, s.2)))
        (eq-or-lt_of_le (le_of_suc-le-suc s.1))

    below_covered : (n : ℕ) → Checked n → (r c : ℕ) → In f r c → ahead f r c < place plan n → Covered plan n r c
    unfolding place
    below_covered zero h r c i l = absurd (omega arith)
    below_covered (suc n) h r c i l =
        step (below_covered n (λ j m. h j (omega arith)) r c i) (h n (omega arith)) (dec_lt (ahead f r c) (place plan n))
      where
        step : (ahead f r c < place plan n → Covered plan n r c) → Placed f (plan n) × (before n ≡ place plan n)
            → Dec (ahead f r c < place plan n) → Covered plan (suc n) r c
        step ih p (yes d) = let s = ih d in (s.0, omega (arith, s.1), s.2)
        step ih p (no d) = (n, omega arith, ahead_of g (plan n) p.0 r c i (omega (arith, p.1)) (omega (arith, p.1)))

    place_whole : (n : ℕ) → Checked n → (place plan n % 16 ≡ 0) × (place plan n ≤ f.height * f.width)
    unfolding place
    place_whole zero h = omega arith
    place_whole (suc n) h =
        let q = h n (omega arith) in
        let a = block_area g (plan n) q.0 in
        let w = place_whole n (λ i l. h i (omega arith)) in
        (omega arith, omega (arith, q.1))

    -- refusal 9 is exact
    pub refusal_9 : (n : ℕ) → Checked n → Placed f (plan n) → (before n ≡ place plan n) ↔ Next f plan n
    refusal_9 n h d = (to, from)
      where
        i : In f (plan n).row (plan n).col
        i = first_in g (plan n) d

        to : before n ≡ place plan n → Next f plan n
        to e = record {
          free = λ s. omega (arith, covered_below n h (plan n).row (plan n).col s);
          least = λ r c j l. below_covered n h r c j (omega (arith, ahead_up r c (plan n).row (plan n).col j i l));
        }

        from : Next f plan n → before n ≡ place plan n
        from x = go (dec_lt (before n) (place plan n)) (dec_lt (place plan n) (before n))
          where
            go : Dec (before n < place plan n) → Dec (place plan n < before n) → before n ≡ place plan n
            go (yes l) _ = absurd (x.free (below_covered n h (plan n).row (plan n).col i l))
            go (no l) (yes m) = absurd (lower (dec_lt (cell_at f s.0 s.1) (cell_at f (plan n).row (plan n).col)))
              where
                s : (r : ℕ) × (c : ℕ) × In f r c × (ahead f r c ≡ place plan n)
                s = ahead_meets (place plan n) (place_whole n h).0 (omega (arith, ahead_lt (plan n).row (plan n).col i))

                lower : Dec (cell_at f s.0 s.1 < cell_at f (plan n).row (plan n).col) → ⊥
                lower (yes t) = omega (arith, s.3, covered_below n h s.0 s.1 (x.least s.0 s.1 s.2 t))
                lower (no t) =
                    omega (
                      arith,
                      s.3,
                      ahead_is g s.0 s.1 s.2,
                      ahead_is g (plan n).row (plan n).col i,
                      cnt_mono (inside f)
                          (cell_at f (plan n).row (plan n).col) (cell_at f s.0 s.1) (omega arith),
                    )
            go (no l) (no m) = omega arith

    -- refusal 10 is exact: where the blocks do not hold as many samples as the picture, one is uncovered
    pub gap : (n : ℕ) → Checked n → (place plan n ≡ f.height * f.width → ⊥) → (r : ℕ) × (c : ℕ) × In f r c × (Covered plan n r c → ⊥)
    gap n h e =
        let w = place_whole n h in
        let s = ahead_meets (place plan n) w.0 (less w.1 (dec_lt (place plan n) (f.height * f.width))) in
        (s.0, s.1, s.2, λ v. omega (arith, s.3, covered_below n h s.0 s.1 v))
      where
        less : place plan n ≤ f.height * f.width → Dec (place plan n < f.height * f.width) → place plan n < f.height * f.width
        less l (yes m) = m
        less l (no m) = absurd (e (omega arith))

    pub refusal_10 : (n : ℕ) → Checked n → (place plan n ≡ f.height * f.width) ↔ All n
    refusal_10 n h = (
      λ e r c i. below_covered n h r c i (omega (arith, ahead_lt r c i)),
      λ v. from v
          (ℕ_discrete (place plan n) (f.height * f.width)),
    )
      where
        from : All n → Dec (place plan n ≡ f.height * f.width) → place plan n ≡ f.height * f.width
        from v (yes e) = e
        from v (no e) = let s = gap n h e in absurd (s.3 (v s.0 s.1 s.2))

    checked : (n : ℕ) → ((k : ℕ) → k < n → Placed f (plan k) × Next f plan k) → Checked n
    checked zero h i l = absurd (omega arith)
    checked (suc n) h i l = go (checked n (λ j m. h j (omega arith))) (dec_lt i n)
      where
        go : Checked n → Dec (i < n) → Placed f (plan i) × (before i ≡ place plan i)
        go c (yes m) = c i m
        go c (no m) =
            let e : i ≡ n = omega arith in
            ((h i l).0, subst (λ (j : ℕ). before j ≡ place plan j) (sym e) ((refusal_9 n c (h n (omega arith)).0).1 (h n (omega arith)).1))

    -- the running count decides a good plan
    pub good_plan : (count : ℕ) → (Checked count × (place plan count ≡ f.height * f.width)) ↔ GoodPlan f plan count
    good_plan count = (to, from)
      where
        to : Checked count × (place plan count ≡ f.height * f.width) → GoodPlan f plan count
        to c = record {
          placed = λ k l. (c.0 k l).0;
          next = λ k l. (refusal_9 k (λ i m. c.0 i (omega arith)) (c.0 k l).0).0 (c.0 k l).1;
          all = (refusal_10 count c.0).0 c.1;
        }

        from : GoodPlan f plan count → Checked count × (place plan count ≡ f.height * f.width)
        from x = let c = checked count (λ k l. (x.placed k l, x.next k l)) in (c, (refusal_10 count c).1 x.all)

    -- of a good plan: a sample of the picture whose cell has a lower number than block k lies in an earlier block
    pub earlier : (count k : ℕ) → GoodPlan f plan count → k < count → (r c : ℕ) → In f r c
        → cell_at f r c < cell_at f (plan k).row (plan k).col → Covered plan k r c
    earlier count k x l = (x.next k l).least

    -- no two blocks share a sample
    pub apart : (count i k : ℕ) → GoodPlan f plan count → i < k → k < count → (r c : ℕ) → Of (plan i) r c → Of (plan k) r c → ⊥
    apart count i k x l m r c o q =
        let h = ((good_plan count).1 x).0 in
        omega (arith, covered_below k (λ j n. h j (omega arith)) r c (i, l, o), of_ahead g (plan k) (h k m).0 r c q, (h k m).1)

    -- and the residuals fill the picture
    pub area : (count : ℕ) → GoodPlan f plan count → place plan count ≡ f.height * f.width
    area count x = ((good_plan count).1 x).1

    -- block by block, within the picture's samples
    pub place_in : (count k : ℕ) → GoodPlan f plan count → k < count → place plan k + (plan k).side * (plan k).side ≤ f.height * f.width
    place_in count k x l = omega (arith, place_up plan k count l, area count x)
