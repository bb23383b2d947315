-- That a counted pair keeps the limits of number 15, and so that no sum is too large, for any report that keeps them, honest or not. Then the
-- turns of the loop over the blocks. Rests on specs/Limits and on what a counted pair rests on.
use Rattle.std.specs.Prelude.{◌≡◌, refl, Bool, true, false, cond, List, ℕ, ◌+◌, ◌-◌, ◌*◌, ◌/◌, ◌≤◌, ◌<◌, eqb, length, get_or, set}
use Rattle.std.proofs.Common.{sym, ap, ◌∙◌, arith, mul-le-mul, mul-le-mul_right, mul_assoc, add-mul, one-mul, length-set, get_or-set_same, get_or-set_other, eq-eqb, ne_eqb}
use Rattle.std.proofs.Math.Decide.{ℕ_discrete}
use Rattle.laws.specs.Sum.{total, total_more, total_most, total_times, total_level, total_upto}
use Rattle.domain.specs.Facts.{size_small}
use Rattle.plan.specs.declared.tiling.Block.{Block}
use Rattle.plan.specs.tiling.Plan.{Plan}
use Rattle.plan.specs.tiling.Cover.{area}
use Rattle.plan.specs.tiling.Sums.{samples_place}
use Rattle.errors.specs.declared.Report.{Report}
use Rattle.errors.specs.Errors.{square_apart, error_at, of_mode, one, samples_in, squares_in, raised, tallied, pair_tally}
use Rattle.errors.specs.Errors.{plane_area, top_of, samples_so_far, keeps_limits}
use Rattle.errors.specs.Served.{RoomFor, under_mode, Limitable, Countable, Figured, block_figures}
use Rattle.errors.specs.Limits.{limits_small, limits_each, raised_at, same_figures, upto, upto_long, raise_none, Passing}
use Rattle.errors.specs.Added.{Modest, limits_kept}

-- blocks by mode, one weight at a time
module _ (weight : Block → ℕ) (plan : ℕ → Block) where
  mode_part : (m : ℕ) → ℕ → ℕ
  mode_part m i = cond (eqb (plan i).mode m) (weight (plan i)) 0

  no_more : (x : Bool) (v : ℕ) → cond x v 0 ≤ v
  no_more true v = omega arith
  no_more false v = omega arith

  -- a mode has no more than all have
  mode_most : (k m : ℕ) → of_mode weight plan k m ≤ total (λ i. weight (plan i)) k
  mode_most k m = total_most _ (λ i. weight (plan i)) k (λ i l. no_more (eqb (plan i).mode m) (weight (plan i)))

  -- a block more, under its mode and under no other
  under : (k m : ℕ) → m ≡ (plan k).mode → of_mode weight plan k m + weight (plan k) ≡ of_mode weight plan (k + 1) m
  under k m e =
      total_more _ k refl (sym (ap (λ (x : Bool). cond x (weight (plan k)) 0) (eq-eqb (plan k).mode m (sym e))))

  elsewhere : (k m : ℕ) → (m ≡ (plan k).mode → ⊥) → of_mode weight plan k m + 0 ≡ of_mode weight plan (k + 1) m
  elsewhere k m d =
      total_more _ k refl (sym (ap (λ (x : Bool). cond x (weight (plan k)) 0) (ne_eqb (plan k).mode m (λ e. d (sym e)))))

  module _ (l : List ℕ) (long : length l ≡ 35) where
    -- a turn: the block's weight is added under its mode
    raise_more : (k : ℕ) {e : List ℕ} {m v : ℕ} → e ≡ raised (of_mode weight plan k) l → m ≡ (plan k).mode → m < 35 → v ≡ weight (plan k)
        → set e m (get_or e m 0 + v) ≡ raised (of_mode weight plan (k + 1)) l
    raise_more k {e} {m} {v} is at small w =
        same_figures _ (upto weight plan l long (k + 1)) (length-set e m _ ∙ e_long) (upto_long weight plan l long (k + 1)) (λ i h. go i h (ℕ_discrete i m))
      where
        e_long : length e ≡ 35
        e_long = ap length is ∙ upto_long weight plan l long k

        now_at : (i : ℕ) → i < 35 → get_or e i 0 ≡ get_or l i 0 + of_mode weight plan k i
        now_at i h = ap (λ (x : List ℕ). get_or x i 0) is ∙ raised_at (of_mode weight plan k) l long i h

        go : (i : ℕ) → i < 35 → Dec (i ≡ m) → get_or (set e m (get_or e m 0 + v)) i 0 ≡ get_or (upto weight plan l long (k + 1)) i 0
        go i h (yes q) =
            ap (λ (j : ℕ). get_or (set e m (get_or e m 0 + v)) j 0) q
            ∙ get_or-set_same e m (get_or e m 0 + v) 0 (omega (arith, e_long, small))
            ∙ omega (arith, now_at m small, w, under k m at, raised_at (of_mode weight plan (k + 1)) l long m small)
            ∙ ap (λ (j : ℕ). get_or (upto weight plan l long (k + 1)) j 0) (sym q)
        go i h (no d) =
            get_or-set_other e m i (get_or e m 0 + v) 0 d
            ∙ omega (arith, now_at i h, elsewhere k i (λ q. d (q ∙ sym at)), raised_at (of_mode weight plan (k + 1)) l long i h)

    -- what is stored is no more than the mode had before the pair, and all blocks so far have
    raise_most : (k : ℕ) {e : List ℕ} {m v : ℕ} → e ≡ raised (of_mode weight plan k) l → m ≡ (plan k).mode → m < 35 → v ≡ weight (plan k)
        → get_or e m 0 + v ≤ get_or l m 0 + total (λ i. weight (plan i)) (k + 1)
    raise_most k {e} {m} {v} is at small w =
        omega (
          arith,
          ap (λ (x : List ℕ). get_or x m 0) is ∙ raised_at (of_mode weight plan k) l long m small,
          w,
          under k m at,
          mode_most (k + 1) m,
        )

-- the squares of a block are no more than its samples can give
module _ (a b : List ℕ) (width top : ℕ) (low_a : (i : ℕ) → get_or a i 0 ≤ top) (low_b : (i : ℕ) → get_or b i 0 ≤ top) where
  square_most : (x y : ℕ) → x ≤ top → y ≤ top → square_apart x y ≤ top * top
  square_most x y h k = let d : x - y + (y - x) ≤ top = omega arith in mul-le-mul d d

  level_most : (f : ℕ → ℕ) (v n : ℕ) → ((i : ℕ) → f i ≤ v) → total f n ≤ n * v
  level_most f v n h = omega (arith, total_most f (λ _. v) n (λ i l. h i), total_level v n)

  block_most : (t : Block) → squares_in a b width t ≤ samples_in t * (top * top)
  block_most t =
      let m = level_most _ (t.side * (top * top)) t.side
      (λ r. level_most (λ c. error_at a b width (t.row + r) (t.col + c)) (top * top) t.side
      (λ c. square_most _ _ (low_a ((t.row + r) * width + (t.col + c))) (low_b ((t.row + r) * width + (t.col + c))))) in
      omega (arith, m, mul_assoc t.side t.side (top * top))

-- what the blocks of a counted pair have, up to any of them
module _ {r : Report} {fit : Bool} {a b : List ℕ} {plan : Plan} (c : Countable r fit a b plan) where
  abbrev block_at : ℕ → Block
  block_at = plan.block

  samples_cap : (k : ℕ) → k ≤ plan.count → total (λ i. samples_in (block_at i)) k ≤ plane_area r
  samples_cap k h =
      omega (
        arith,
        total_upto (λ i. samples_in (block_at i)) k plan.count h,
        samples_place block_at plan.count,
        area c.accepted.picture block_at plan.count c.accepted.plan_good,
      )

  blocks_cap : (k : ℕ) → k ≤ plan.count → total (λ i. one (block_at i)) k ≤ plane_area r / 16
  blocks_cap k h =
      let least = total_most (λ _. 16) (λ i. samples_in (block_at i)) k (λ i l.
      let s = size_small (block_at i).side (c.accepted.plan_good.placed i (omega arith)).size in mul-le-mul s.0 s.0) in
      omega (arith, least, total_level 16 k, total_level 1 k, samples_cap k h)

  squares_cap : (k : ℕ) → k ≤ plan.count → total (λ i. squares_in a b r.frame.width (block_at i)) k ≤ plane_area r * (top_of r * top_of r)
  squares_cap k h =
      let each = total_most (λ i. squares_in a b r.frame.width (block_at i)) (λ i. samples_in (block_at i) * (top_of r * top_of r)) k
      (λ i l. block_most a b r.frame.width (top_of r) c.low_a c.low_b (block_at i)) in
      omega (
        arith,
        each,
        total_times (λ i. samples_in (block_at i)) (top_of r * top_of r) k,
        mul-le-mul_right (top_of r * top_of r) (samples_cap k h),
      )

  -- so a mode has no more of a pair than one pair can give
  pub pair_modest : (m : ℕ) → (of_mode one block_at plan.count m ≤ plane_area r / 16)
      × ((of_mode samples_in block_at plan.count m ≤ plane_area r)
      × (of_mode (squares_in a b r.frame.width) block_at plan.count m ≤ plane_area r * (top_of r * top_of r)))
  pair_modest m = (
    omega (arith, mode_most one block_at plan.count m, blocks_cap plan.count (omega arith)),
    (
      omega (arith, mode_most samples_in block_at plan.count m, samples_cap plan.count (omega arith)),
      omega (
        arith,
        mode_most (squares_in a b r.frame.width) block_at plan.count m,
        squares_cap plan.count (omega arith),
      ),
    ),
  )

  -- the limits of one pair more
  more_pairs : (r.pairs + 1) * plane_area r ≡ samples_so_far r + plane_area r
  more_pairs = add-mul r.pairs 1 (plane_area r) ∙ ap (λ (v : ℕ). samples_so_far r + v) (one-mul (plane_area r))

  more_squares : (r.pairs + 1) * plane_area r * (top_of r * top_of r)
      ≡ samples_so_far r * (top_of r * top_of r) + plane_area r * (top_of r * top_of r)
  more_squares = ap (λ (v : ℕ). v * (top_of r * top_of r)) more_pairs ∙ add-mul (samples_so_far r) (plane_area r) (top_of r * top_of r)

  -- so each sum has room in 64 bits
  one_more : Limitable (record {
    bits = r.bits;
    frame = r.frame;
    pairs = r.pairs + 1;
    blocks = r.blocks;
    samples = r.samples;
    squares =
        r.squares;
  })
  one_more = record { depth = c.depth; picture = c.accepted.picture; few = omega (arith, c.few) }

  blocks_room : (m k : ℕ) → k ≤ plan.count → get_or r.blocks m 0 + total (λ i. one (block_at i)) k ≤ (r.pairs + 1) * plane_area r / 16
  blocks_room m k h = omega (arith, (limits_each r c.limits m).0, blocks_cap k h, more_pairs)

  samples_room : (m k : ℕ) → k ≤ plan.count
      → get_or r.samples m 0 + total (λ i. samples_in (block_at i)) k ≤ (r.pairs + 1) * plane_area r
  samples_room m k h = omega (arith, (limits_each r c.limits m).1.0, samples_cap k h, more_pairs)

  squares_room : (m k : ℕ) → k ≤ plan.count → get_or r.squares m 0 + total (λ i. squares_in a b r.frame.width (block_at i)) k
      ≤ (r.pairs + 1) * plane_area r * (top_of r * top_of r)
  squares_room m k h = omega (arith, (limits_each r c.limits m).1.1, squares_cap k h, more_squares)

  -- in numbers
  room_in_64 : ((r.pairs + 1) * plane_area r ≤ 1099511627776)
      × ((r.pairs + 1) * plane_area r * (top_of r * top_of r) ≤ 18437737973966438400)
  room_in_64 = let s = limits_small one_more in (s.0, s.1.1)

  module _ (long : Figured r) where
    pub passing_none : Passing c 0 r.blocks r.samples r.squares
    passing_none = (
      omega arith,
      (
        raise_none one block_at r.blocks long.0,
        (
          raise_none samples_in block_at r.samples long.1.0,
          raise_none (squares_in a b r.frame.width) block_at r.squares long.1.1,
        ),
      ),
    )

    -- a turn: t is block k and v its squares
    module _ {k : ℕ} {blocks samples squares : List ℕ} (p : Passing c k blocks samples squares) (l : k < plan.count)
        (t : Block) (e : t ≡ plan.block k) (v : ℕ) (q : v ≡ squares_in a b r.frame.width t) where
      mode_is : t.mode ≡ (block_at k).mode
      mode_is = ap (λ (u : Block). u.mode) e

      small : t.mode < 35
      small = (block_figures c k t e l).0

      in_samples : t.side * t.side ≡ samples_in (block_at k)
      in_samples = ap samples_in e

      in_squares : v ≡ squares_in a b r.frame.width (block_at k)
      in_squares = q ∙ ap (squares_in a b r.frame.width) e

      pub turn_fits : RoomFor blocks samples squares t v
      turn_fits =
          let n : k + 1 ≤ plan.count = omega arith in
          record {
            mode = small;
            side = (block_figures c k t e l).1;
            for_block = omega (
              arith,
              raise_most one block_at r.blocks long.0 k p.1.0 mode_is small refl,
              blocks_room t.mode (k + 1) n,
              room_in_64.0,
            );
            for_samples = omega (
              arith,
              raise_most samples_in block_at r.samples long.1.0 k p.1.1.0 mode_is small in_samples,
              samples_room t.mode (k + 1) n,
              room_in_64.0,
            );
            for_squares = omega (
              arith,
              raise_most (squares_in a b r.frame.width) block_at r.squares long.1.1 k p.1.1.1 mode_is small in_squares,
              squares_room t.mode (k + 1) n,
              room_in_64.1,
            );
          }

      pub turn_more : Passing c (k + 1) (under_mode t blocks 1) (under_mode t samples (samples_in t)) (under_mode t squares v)
      turn_more = (
        omega arith,
        (
          raise_more one block_at r.blocks long.0 k p.1.0 mode_is small refl,
          (
            raise_more samples_in block_at r.samples long.1.0 k p.1.1.0 mode_is small in_samples,
            raise_more (squares_in a b r.frame.width) block_at r.squares long.1.1 k p.1.1.1 mode_is small in_squares,
          ),
        ),
      )

      -- as the code leaves them
      pub turn_added : {blocks' samples' squares' : List ℕ}
          → (blocks' ≡ under_mode t blocks 1) × ((samples' ≡ under_mode t samples (samples_in t)) × (squares' ≡ under_mode t squares v))
          → Passing c (k + 1) blocks' samples' squares'
      turn_added x = (turn_more.0, (x.0 ∙ turn_more.1.0, (x.1.0 ∙ turn_more.1.1.0, x.1.1 ∙ turn_more.1.1.1)))

  pub passing_done : {k : ℕ} {blocks samples squares : List ℕ} → Passing c k blocks samples squares → plan.count ≤ k
      → record { bits = r.bits; frame = r.frame; pairs = r.pairs + 1; blocks = blocks; samples = samples; squares = squares }
      ≡ tallied r (pair_tally r.frame a b plan)
  passing_done {k} {blocks} {samples} {squares} p l = let e : k ≡ plan.count = omega (arith, p.0) in λ i. record {
    bits = r.bits;
    frame = r.frame;
    pairs = r.pairs + 1;
    blocks = (p.1.0 ∙ ap (λ (n : ℕ). raised (of_mode one block_at n) r.blocks) e) i;
    samples = (p.1.1.0 ∙ ap (λ (n : ℕ). raised (of_mode samples_in block_at n) r.samples) e) i;
    squares = (p.1.1.1 ∙ ap (λ (n : ℕ). raised (of_mode (squares_in a b r.frame.width) block_at n) r.squares) e) i;
  }

-- a counted pair keeps the limits
pub pair_keeps : {r : Report} {fit : Bool} {a b : List ℕ} {plan : Plan} → Countable r fit a b plan → Figured r
    → keeps_limits (tallied r (pair_tally r.frame a b plan)) ≡ true
pair_keeps {r} {fit} {a} {b} {plan} c long = limits_kept r (pair_tally r.frame a b plan) c.limits modest long
  where
    modest : Modest r (pair_tally r.frame a b plan)
    modest m =
        let p = pair_modest c m in
        let e : 1 * plane_area r ≡ plane_area r = omega arith in
        (omega (arith, p.0, e), (omega (arith, p.1.0, e), omega (arith, p.1.1, ap (λ (v : ℕ). v * (top_of r * top_of r)) e)))
