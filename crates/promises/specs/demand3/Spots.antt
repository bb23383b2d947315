-- Samples and residuals named by their block: where sample (r, c) of block i lies, and which block a residual belongs to. Rests on what a
-- good plan is.
use Rattle.std.specs.Prelude.{◌≡◌, List, ℤ, pos, nat_abs, ◌-ℤ◌, length, get_or}
use Rattle.std.proofs.Common.{sym, ap, ap₂, ◌∙◌, ⊎_elim, mod-lt, div-add-mod', div-lt_iff_lt-mul, ext_get_or}
use Prim.Native.Nat.{ℕ, zero, suc, ◌+◌, ◌-◌, ◌*◌, ◌/◌, ◌%◌, ◌≤◌, ◌<◌}
use native.Mathlib.Omega.{arith}
use Rattle.std.proofs.Math.Decide.{dec_lt}
use Rattle.laws.specs.Diff.{order}
use Rattle.domain.specs.helpers.Ways.{apart_below, apart_above}
use Rattle.plan.specs.declared.tiling.Block.{Block}
use Rattle.plan.specs.tiling.Tiling.{In, Covered, place}
use Rattle.plan.specs.tiling.Verdict.{Accepted}
use Rattle.walk.specs.declared.checks.Still.{Still}
use Rattle.walk.specs.block.Predicted.{sample_at, predicted_at}
use Rattle.walk.specs.lossless.Picture.{Sample, OfS, Whole, predict, residual, added, less}

-- a difference of two samples is no greater than the greater
pub less_small : (m o p : ℕ) → o ≤ m → p ≤ m → nat_abs (pos o -ℤ pos p) ≤ m
less_small m o p h k = ⊎_elim (λ l. omega (arith, apart_below o p l)) (λ l. omega (arith, apart_above o p l)) (order o p)

-- an index of a square that begins at `at`
pub in_block : (side at n : ℕ) → 0 < side → at ≤ n → n < at + side * side → (r : ℕ) × (c : ℕ) × (r < side) × (c < side)
    × (n ≡ at + r * side + c)
in_block side at n h l m =
    ((n - at) / side, (n - at) % side, (div-lt_iff_lt-mul h).1 (omega arith), mod-lt (n - at) h, omega (arith, div-add-mod' (n - at) side))

abbrev pub at : {s : Still} (r c : ℕ) → In s.frame r c → Sample s
at r c h = record { row = r; col = c; row_in = h.0; col_in = h.1 }

-- two planes of the picture's length that agree at every sample are one
pub by_samples : (s : Still) (a b : List ℕ) → 0 < s.frame.width → Whole s a → Whole s b
    → ((r c : ℕ) → In s.frame r c → sample_at s a r c ≡ sample_at s b r c) → a ≡ b
by_samples s a b some ha hb same = ext_get_or 0 a b (ha ∙ sym hb) go
  where
    go : (n : ℕ) → n < length a → get_or a n 0 ≡ get_or b n 0
    go n l =
        let w = s.frame.width in
        let e : n ≡ n / w * w + n % w = sym (div-add-mod' n w) in
        ap (λ (k : ℕ). get_or a k 0) e ∙ same (n / w) (n % w) ((div-lt_iff_lt-mul some).1 (omega arith), mod-lt n some)
        ∙ sym (ap (λ (k : ℕ). get_or b k 0) e)

module _ (s : Still) (plan : ℕ → Block) where
  -- the block that a residual belongs to
  pub part_of : (count n : ℕ) → n < place plan count → (i : ℕ) × (i < count) × (place plan i ≤ n)
      × (n < place plan i + (plan i).side * (plan i).side)
  unfolding place
  part_of zero n h = absurd (omega arith)
  part_of (suc k) n h = go (part_of k n) (dec_lt n (place plan k))
    where
      go : (n < place plan k → (i : ℕ) × (i < k) × (place plan i ≤ n) × (n < place plan i + (plan i).side * (plan i).side))
          → Dec (n < place plan k)
          → (i : ℕ) × (i < suc k) × (place plan i ≤ n) × (n < place plan i + (plan i).side * (plan i).side)
      go ih (yes l) = let v = ih l in (v.0, omega (arith, v.1), v.2, v.3)
      go ih (no l) = (k, omega arith, omega arith, h)

  module _ (count : ℕ) (ok : Accepted s.frame plan count) where
    -- sample (r, c) of block i
    abbrev pub spot : (i r c : ℕ) → i < count → r < (plan i).side → c < (plan i).side → Sample s
    spot i r c l hr hc =
        let p = ok.plan_good.placed i l in
        record { row = (plan i).row + r; col = (plan i).col + c; row_in = omega arith; col_in = omega arith }

    -- a sample of one of the first blocks lies in the picture
    pub covered_in : (k r c : ℕ) → k ≤ count → Covered plan k r c → In s.frame r c
    covered_in k r c h v =
        let p = ok.plan_good.placed v.0 (omega (arith, v.1)) in
        let o = v.2 in
        (omega arith, omega arith)

    module _ (i r c : ℕ) (l : i < count) (hr : r < (plan i).side) (hc : c < (plan i).side) where
      pub spot_of : OfS s plan i (spot i r c l hr hc)
      spot_of = record { top = omega arith; bottom = omega arith; left = omega arith; right = omega arith }

      row_back : (plan i).row + r - (plan i).row ≡ r
      row_back = omega arith

      col_back : (plan i).col + c - (plan i).col ≡ c
      col_back = omega arith

      pub spot_residual : (v : List ℤ) → residual s plan v i (spot i r c l hr hc) ≡ get_or v (place plan i + r * (plan i).side + c) (pos 0)
      spot_residual v = ap₂ (λ (a b : ℕ). get_or v (place plan i + a * (plan i).side + b) (pos 0)) row_back col_back

      pub spot_predict : (plane : List ℕ) → predict s plan i plane (spot i r c l hr hc) ≡ predicted_at s (plan i) plane r c
      spot_predict plane = ap₂ (predicted_at s (plan i) plane) row_back col_back

      -- a residual that is a sample less the prediction, and a sample that is the prediction plus the residual, by their block
      pub spot_less : (o : ℕ) (v : List ℤ) (plane : List ℕ)
          → residual s plan v i (spot i r c l hr hc) ≡ less o (predict s plan i plane (spot i r c l hr hc))
          → get_or v (place plan i + r * (plan i).side + c) (pos 0) ≡ pos o -ℤ pos (predicted_at s (plan i) plane r c)
      spot_less o v plane e = sym (spot_residual v) ∙ e ∙ ap (less o) (spot_predict plane)

      pub spot_added : (x : ℕ) (v : List ℤ) (plane : List ℕ)
          → x ≡ added s (predict s plan i plane (spot i r c l hr hc)) (residual s plan v i (spot i r c l hr hc))
          → x ≡ added s (predicted_at s (plan i) plane r c) (get_or v (place plan i + r * (plan i).side + c) (pos 0))
      spot_added x v plane e = e ∙ ap₂ (added s) (spot_predict plane) (spot_residual v)
