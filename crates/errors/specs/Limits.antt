-- The limits of number 15: that they can be worked out in 64 bits, and what a figure is that is raised. That a counted pair keeps them, and the
-- turns of the loop over the blocks: proofs/Limits. Rests on what a counted pair rests on.
use Rattle.std.specs.Prelude.{◌≡◌, Bool, true, ◌&&◌, List, ℕ, ◌+◌, ◌*◌, ◌/◌, ◌≤◌, ◌<◌, length, get_or}
use Rattle.std.proofs.Common.{sym, ◌∙◌, arith, mul-le-mul, ext_get_or}
use Rattle.laws.specs.Choose.{both_true}
use Rattle.laws.specs.Every.{most_at}
use Rattle.laws.specs.FillLaws.{length_fill, fill_at}
use Rattle.laws.specs.Sum.{total}
use Rattle.plan.specs.declared.tiling.Block.{Block}
use Rattle.plan.specs.tiling.Plan.{Plan}
use Rattle.plan.specs.tiling.Ahead.{area_small}
use Rattle.errors.specs.declared.Report.{Report}
use Rattle.errors.specs.Errors.{of_mode, one, samples_in, squares_in, raised}
use Rattle.errors.specs.Errors.{top_of, samples_so_far, at_most, keeps_limits}
use Rattle.errors.specs.Served.{Limitable, Countable, top_most}

-- the limits in 64 bits: 65536 pairs of 4096 by 4096 samples of 12 bits
pub limits_small : {r : Report} → Limitable r → (samples_so_far r ≤ 1099511627776)
    × ((top_of r * top_of r ≤ 16769025) × (samples_so_far r * (top_of r * top_of r) ≤ 18437737973966438400))
limits_small {r} l =
    let m : samples_so_far r ≤ 1099511627776 = mul-le-mul l.few (area_small l.picture) in
    let t = top_most r l.depth in
    let q : top_of r * top_of r ≤ 16769025 = mul-le-mul t t in
    (m, (q, mul-le-mul m q))

-- a report that keeps them, mode by mode
pub limits_each : (r : Report) → keeps_limits r ≡ true → (m : ℕ) → (get_or r.blocks m 0 ≤ samples_so_far r / 16)
    × ((get_or r.samples m 0 ≤ samples_so_far r) × (get_or r.squares m 0 ≤ samples_so_far r * (top_of r * top_of r)))
unfolding keeps_limits
limits_each r e m =
    let p = both_true (at_most (samples_so_far r / 16) r.blocks && at_most (samples_so_far r) r.samples)
    (at_most (samples_so_far r * (top_of r * top_of r)) r.squares) e in
    let q = both_true (at_most (samples_so_far r / 16) r.blocks) (at_most (samples_so_far r) r.samples) p.0 in
    (most_at _ r.blocks q.0 m, (most_at _ r.samples q.1 m, most_at _ r.squares p.1 m))

-- a figure that is raised
pub raised_at : (more : ℕ → ℕ) (l : List ℕ) → length l ≡ 35 → (m : ℕ) → m < 35 → get_or (raised more l) m 0 ≡ get_or l m 0 + more m
raised_at more l e m h = fill_at (λ (i : ℕ). get_or l i 0 + more i) 35 l m 0 h (omega (arith, e))

pub length_raised : (more : ℕ → ℕ) (l : List ℕ) → length (raised more l) ≡ length l
length_raised more l = length_fill (λ (i : ℕ). get_or l i 0 + more i) 35 l

-- figures of 35 modes that are the same, mode by mode
pub same_figures : (l k : List ℕ) → length l ≡ 35 → length k ≡ 35 → ((m : ℕ) → m < 35 → get_or l m 0 ≡ get_or k m 0) → l ≡ k
same_figures l k e q h = ext_get_or 0 l k (e ∙ sym q) (λ i n. h i (omega (arith, e)))

-- blocks by mode, one weight at a time
module _ (weight : Block → ℕ) (plan : ℕ → Block) where
  module _ (l : List ℕ) (long : length l ≡ 35) where
    abbrev pub upto : ℕ → List ℕ
    upto k = raised (of_mode weight plan k) l

    pub upto_long : (k : ℕ) → length (upto k) ≡ 35
    upto_long k = length_raised (of_mode weight plan k) l ∙ long

    -- the loop begins
    pub raise_none : l ≡ raised (of_mode weight plan 0) l
    unfolding total
    raise_none = same_figures l (upto 0) long (upto_long 0) (λ m h. omega (arith, raised_at (of_mode weight plan 0) l long m h))

-- what the blocks of a counted pair have, up to any of them
module _ {r : Report} {fit : Bool} {a b : List ℕ} {plan : Plan} (c : Countable r fit a b plan) where
  abbrev block_at : ℕ → Block
  block_at = plan.block

  -- The loop over the blocks: the figures when k of them are passed.
  abbrev pub Passing : ℕ → List ℕ → List ℕ → List ℕ → Type 0
  Passing k blocks samples squares =
      (k ≤ plan.count) × ((blocks ≡ raised (of_mode one block_at k) r.blocks)
      × ((samples ≡ raised (of_mode samples_in block_at k) r.samples)
      × (squares ≡ raised (of_mode (squares_in a b r.frame.width) block_at k) r.squares)))
