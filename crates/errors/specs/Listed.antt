-- A pair of planes under a plan of records, block by block: the report with the blocks passed so far, and what the call gives in the end.
-- Rests on the turns of the loop over the blocks.
use Rattle.std.specs.Prelude.{◌≡◌, ◌&&◌, List, ℕ, ◌+◌, ◌<◌, length}
use Rattle.std.proofs.Math.Path.{sym, ap, ap₂}
use Rattle.std.proofs.Common.{◌∙◌, arith}
use Rattle.std.proofs.Math.Decide.{ℕ_discrete}
use Rattle.laws.specs.Choose.{served, worked, unserved}
use Rattle.plan.specs.declared.tiling.Block.{Block}
use Rattle.plan.specs.Answers.{Verdict}
use Rattle.plan.specs.tiling.Plan.{listed}
use Rattle.plan.specs.tiling.PlanCheck.{plan_verdict}
use Rattle.errors.specs.declared.Report.{Report}
use Rattle.errors.specs.Answers.{Counted}
use Rattle.errors.specs.Errors.{of_mode, one, samples_in, squares_in, raised, tallied, pair_tally, top_of, at_most, room_for_pair, pair_no}
use Rattle.errors.specs.Errors.{settle_full, pair_verdict, planes_fit, counted_by, count_pair}
use Rattle.errors.specs.Served.{BlockPair, RoomFor, under_mode, Countable, Figured, countable}
use Rattle.errors.specs.Limits.{raise_none}

-- what a call comes to before it counts: its verdict, and the blocks that it counts up to
pub record Start : Type 0 where
  pub found : Verdict
  pub upto : ℕ

-- what a call comes to before it counts, and what it gives
abbrev pub start_on : Report → List ℕ → List ℕ → ℕ → Verdict → Start
start_on r a b count found =
    let v = settle_full (pair_no r (planes_fit r (length a) (length b)) (at_most (top_of r) a && at_most (top_of r) b)) found (room_for_pair r) in
    record { found = v; upto = served v.no count 0 }

abbrev one_pair : Report → Report
one_pair r =
    record {
      bits = r.bits;
      frame = r.frame;
      pairs = r.pairs + 1;
      blocks = r.blocks;
      samples = r.samples;
      squares = r.squares;
    }

abbrev pub pair_answer : Verdict → Report → Counted
pair_answer v r = record { no = v.no; block = v.block; next = served v.no (one_pair r) r }

-- its two ways
pub start_so : (count : ℕ) {v w : Verdict} → w ≡ v → w.no ≡ 0
    → ◌≡◌ {A = Start} (record { found = w; upto = count }) (record { found = v; upto = served v.no count 0 })
start_so count {v} {w} e z =
    ap₂ (λ (u : Verdict) (n : ℕ). record { found = u; upto = n }) e
    (worked v.no count 0 (sym (ap (λ (u : Verdict). u.no) e) ∙ z))

pub start_not : (count : ℕ) {v w : Verdict} → w ≡ v → (w.no ≡ 0 → ⊥)
    → ◌≡◌ {A = Start} (record { found = w; upto = 0 }) (record { found = v; upto = served v.no count 0 })
start_not count {v} {w} e d =
    ap₂ (λ (u : Verdict) (n : ℕ). record { found = u; upto = n }) e
    (unserved v.no count 0 (λ z. d (ap (λ (u : Verdict). u.no) e ∙ z)))

-- a block more, under its mode
abbrev pub with_block : Report → List ℕ → List ℕ → Block → Report
with_block r a b t =
    record {
      bits = r.bits;
      frame = r.frame;
      pairs = r.pairs;
      blocks = under_mode t r.blocks 1;
      samples = under_mode t r.samples (samples_in t);
      squares = under_mode t r.squares (squares_in a b r.frame.width t);
    }

-- as the code makes it, the block's squares in hand
pub with_one : (r : Report) (a b : List ℕ) (t : Block) {blocks samples squares : List ℕ} {v : ℕ} → v ≡ squares_in a b r.frame.width t
    → blocks ≡ under_mode t r.blocks 1 → samples ≡ under_mode t r.samples (samples_in t) → squares ≡ under_mode t r.squares v
    → record { bits = r.bits; frame = r.frame; pairs = r.pairs; blocks = blocks; samples = samples; squares = squares } ≡ with_block r a b t
with_one r a b t e x y z = λ i. record {
  bits = r.bits;
  frame = r.frame;
  pairs = r.pairs;
  blocks = x i;
  samples = y i;
  squares = (z ∙ ap (under_mode t r.squares) e) i;
}

-- a block that can be counted: it lies in both planes, and its mode's sums have room for it
pub record Addable (r : Report) (a b : List ℕ) (t : Block) : Type 0 where
  pub pair : BlockPair a b r.frame.width t
  pub room : RoomFor r.blocks r.samples r.squares t (squares_in a b r.frame.width t)

-- a report with the first k blocks of a pair
abbrev pub with_blocks : Report → List ℕ → List ℕ → (ℕ → Block) → ℕ → Report
with_blocks r a b plan k =
    record {
      bits = r.bits;
      frame = r.frame;
      pairs = r.pairs;
      blocks = raised (of_mode one plan k) r.blocks;
      samples = raised (of_mode samples_in plan k) r.samples;
      squares = raised (of_mode (squares_in a b r.frame.width) plan k) r.squares;
    }

pub with_none : (r : Report) (a b : List ℕ) (plan : ℕ → Block) → Figured r → r ≡ with_blocks r a b plan 0
with_none r a b plan long = λ i. record {
  bits = r.bits;
  frame = r.frame;
  pairs = r.pairs;
  blocks = raise_none one plan r.blocks long.0 i;
  samples = raise_none samples_in plan r.samples long.1.0 i;
  squares = raise_none (squares_in a b r.frame.width) plan r.squares long.1.1 i;
}

-- the call as a whole: v is its verdict, of which `upto` was made
module _ (r : Report) (a b : List ℕ) (l : List Block) (long : Figured r) {x : Start} {found : Verdict}
    (g : found ≡ plan_verdict r.frame (listed l)) (e : x ≡ start_on r a b (length l) found) where
  abbrev verdict : Verdict
  verdict = pair_verdict r (planes_fit r (length a) (length b)) a b (listed l)

  start_is : x ≡ start_on r a b (length l) (plan_verdict r.frame (listed l))
  start_is = e ∙ ap (start_on r a b (length l)) g

  found_is : x.found ≡ verdict
  found_is = ap (λ (y : Start). y.found) start_is

  upto_is : x.upto ≡ served verdict.no (length l) 0
  upto_is = ap (λ (y : Start). y.upto) start_is

  -- a call that counts a block is not refused
  pub call_counts : (i : ℕ) → i < x.upto
      → (i < length l) × Countable r (planes_fit r (length a) (length b)) a b (listed l)
  call_counts i h = go (ℕ_discrete verdict.no 0)
    where
      go : Dec (verdict.no ≡ 0) → (i < length l) × Countable r (planes_fit r (length a) (length b)) a b (listed l)
      go (yes z) = (
        omega (arith, upto_is, worked verdict.no (length l) 0 z, h),
        countable r (planes_fit r (length a) (length b)) a b (listed l) z,
      )
      go (no d) = absurd (omega (arith, upto_is, unserved verdict.no (length l) 0 d, h))

  pub call_few : {s : Report} (i : ℕ) → s ≡ with_blocks r a b (listed l).block i → x.found.no ≡ 0 → s.pairs < 65536
  call_few i same z =
      let c = countable r (planes_fit r (length a) (length b)) a b (listed l) (sym (ap (λ (v : Verdict). v.no) found_is) ∙ z) in
      omega (arith, ap (λ (s : Report). s.pairs) same, c.few)

  abbrev left : ℕ → Report
  left k = served verdict.no (one_pair (with_blocks r a b (listed l).block k)) (with_blocks r a b (listed l).block k)

  pub call_ends : {s : Report} (i : ℕ) → s ≡ with_blocks r a b (listed l).block i → i ≡ x.upto
      → pair_answer x.found s ≡ count_pair r a b (listed l)
  unfolding counted_by
  call_ends {s} i same at =
      ap₂ pair_answer found_is same
      ∙ ap (λ (y : Report). record { no = verdict.no; block = verdict.block; next = y }) (go (ℕ_discrete verdict.no 0))
    where
      go : Dec (verdict.no ≡ 0) → left i ≡ served verdict.no (tallied r (pair_tally r.frame a b (listed l))) r
      go (yes z) =
          ap left (at ∙ upto_is ∙ sym (worked verdict.no (length l) 0 z))
          ∙ sym (worked verdict.no _ (with_blocks r a b (listed l).block (length l)) z) ∙ worked verdict.no _ r z
      go (no d) =
          ap left (at ∙ upto_is ∙ sym (unserved verdict.no (length l) 0 d))
          ∙ sym (unserved verdict.no _ (with_blocks r a b (listed l).block 0) d)
          ∙ sym (with_none r a b (listed l).block long) ∙ unserved verdict.no _ r d
