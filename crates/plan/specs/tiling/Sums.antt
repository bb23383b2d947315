-- Sums over a good plan's blocks: what their samples add up to is what the picture's do, for any function of row and column. Rests on what
-- blocks cover.
use Rattle.std.specs.Prelude.{◌≡◌, Bool, cond, ◌&&◌, ℕ, zero, suc, ◌+◌, ◌*◌, ◌<◌, leb, ltb}
use Rattle.std.proofs.Math.Path.{refl, sym}
use Rattle.std.proofs.Common.{ap, ◌∙◌, arith, le-leb, lt-ltb, leb-true, ltb-true}
use Rattle.std.proofs.Math.Bool.{true, false}
use Rattle.std.proofs.Math.Decide.{dec_lt}
use Rattle.laws.specs.Sum.{total, total_same, total_zero, total_turned, total_one, in_stretch, total_window}
use Rattle.laws.specs.Choose.{both_true}
use Rattle.order.specs.Good.{Good}
use Rattle.plan.specs.declared.tiling.Frame.{Frame}
use Rattle.plan.specs.declared.tiling.Block.{Block}
use Rattle.plan.specs.tiling.Tiling.{picture_of, In, Of, Placed, GoodPlan, place}
use Rattle.plan.specs.tiling.Cover.{apart}

-- what the samples of a block add up to, and those of a whole picture, a row at a time
abbrev pub block_total : (ℕ → ℕ → ℕ) → Block → ℕ
block_total f b = total (λ r. total (λ c. f (b.row + r) (b.col + c)) b.side) b.side

abbrev pub picture_total : (ℕ → ℕ → ℕ) → Frame → ℕ
picture_total f frame = total (λ r. total (f r) frame.width) frame.height

-- whether a sample is one of a block
abbrev in_block : Block → ℕ → ℕ → Bool
in_block b r c = in_stretch b.row b.side r && in_stretch b.col b.side c

of_in : (b : Block) (r c : ℕ) → in_block b r c ≡ true → Of b r c
of_in b r c e =
    let p = both_true (in_stretch b.row b.side r) (in_stretch b.col b.side c) e in
    let y = both_true (leb b.row r) (ltb r (b.row + b.side)) p.0 in
    let x = both_true (leb b.col c) (ltb c (b.col + b.side)) p.1 in
    record {
      top = leb-true b.row r y.0;
      bottom = ltb-true r (b.row + b.side) y.1;
      left = leb-true b.col c x.0;
      right = ltb-true c (b.col + b.side) x.1;
    }

in_of : (b : Block) (r c : ℕ) → Of b r c → in_block b r c ≡ true
in_of b r c o = simp (
  le-leb b.row r o.top,
  lt-ltb r (b.row + b.side) o.bottom,
  le-leb b.col c o.left,
  lt-ltb c (b.col + b.side) o.right,
)

-- a block's samples, as a sum over the picture with the others left out
module _ (frame : Frame) (f : ℕ → ℕ → ℕ) (b : Block) (p : Placed frame b) where
  row_part : ℕ → ℕ
  row_part r = total (λ c. cond (in_stretch b.col b.side c) (f r c) 0) frame.width

  row_whole : (x : Bool) (r : ℕ) → cond x (row_part r) 0 ≡ total (λ c. cond (x && in_stretch b.col b.side c) (f r c) 0) frame.width
  unfolding row_part
  row_whole true r = refl
  row_whole false r = sym (total_zero (λ _. 0) frame.width (λ i l. refl))

  block_in_picture : block_total f b ≡ picture_total (λ r c. cond (in_block b r c) (f r c) 0) frame
  unfolding row_part
  block_in_picture =
      total_same _ (λ r. row_part (b.row + r)) b.side
      (λ r l. total_window (f (b.row + r)) b.col b.side frame.width p.col_in)
      ∙ total_window row_part b.row b.side frame.height p.row_in
      ∙ total_same _ _ frame.height (λ r l. row_whole (in_stretch b.row b.side r) r)

-- the sum over a good plan's blocks is the sum over the picture
module _ {frame : Frame} (g : Good (picture_of frame)) (plan : ℕ → Block) (count : ℕ) (good : GoodPlan frame plan count) where
  left_out : (x : Bool) (v : ℕ) → (x ≡ true → ⊥) → cond x v 0 ≡ 0
  left_out true v h = absurd (h refl)
  left_out false v h = refl

  -- each sample is in one block
  once : (v r c : ℕ) → In frame r c → total (λ k. cond (in_block (plan k) r c) v 0) count ≡ v
  once v r c i =
      let s = good.all r c i in
      let k : ℕ = s.0 in
      total_one (λ j. cond (in_block (plan j) r c) v 0) count k s.1
      (λ j l d. left_out (in_block (plan j) r c) v (λ e. other j k l s.1 d (of_in (plan j) r c e) s.2))
      ∙ ap (λ (x : Bool). cond x v 0) (in_of (plan k) r c s.2)
    where
      other : (j k : ℕ) → j < count → k < count → (j ≡ k → ⊥) → Of (plan j) r c → Of (plan k) r c → ⊥
      other j k l m d o q = go (dec_lt j k)
        where
          go : Dec (j < k) → ⊥
          go (yes h) = apart g plan count j k good h m r c o q
          go (no h) = apart g plan count k j good (omega (arith, h, d)) l r c q o

  pub partition : (f : ℕ → ℕ → ℕ) → total (λ k. block_total f (plan k)) count ≡ picture_total f frame
  partition f =
      total_same _ _ count (λ k l. block_in_picture frame f (plan k) (good.placed k l))
      ∙ total_turned (λ k r. total (λ c. cond (in_block (plan k) r c) (f r c) 0) frame.width) count frame.height
      ∙ total_same _ _ frame.height (λ r y. total_turned (λ k c. cond (in_block (plan k) r c) (f r c) 0) count frame.width
      ∙ total_same _ (f r) frame.width (λ c x. once (f r c) r c (y, x)))

-- the samples of the first k blocks
pub samples_place : (plan : ℕ → Block) (k : ℕ) → total (λ i. (plan i).side * (plan i).side) k ≡ place plan k
unfolding total place
samples_place plan zero = refl
samples_place plan (suc k) = ap (λ (s : ℕ). s + (plan k).side * (plan k).side) (samples_place plan k)
