-- Where the residuals of a plan's blocks begin. Assumes nothing.
use Rattle.std.specs.Prelude.{◌≡◌}
use Rattle.std.proofs.Math.Path.{refl, subst}
use Rattle.std.proofs.Common.{sym, ap₂, eq-or-lt_of_le, le_of_suc-le-suc, add-one}
use Rattle.std.proofs.Math.Logic.{⊎_elim}
use Prim.Native.Nat.{ℕ, zero, suc, ◌+◌, ◌*◌, ◌≤◌, ◌<◌}
use Rattle.std.proofs.Math.Nat.{mul-le-mul}
use native.Mathlib.Omega.{arith}
use Rattle.plan.specs.declared.tiling.Block.{Block}
use Rattle.plan.specs.tiling.Tiling.{place}

module _ (plan : ℕ → Block) where
  pub place_none : 0 ≡ place plan 0
  unfolding place
  place_none = refl

  pub place_more : (k at : ℕ) (b : Block) → at ≡ place plan k → b ≡ plan k → at + b.side * b.side ≡ place plan (k + 1)
  unfolding place
  place_more k at b e q = rw (add-one k) (ap₂ (λ (u : ℕ) (x : Block). u + x.side * x.side) e q)

  pub place_up : (i k : ℕ) → i ≤ k → place plan i ≤ place plan k
  unfolding place
  place_up i zero l = let e : 0 ≡ i = omega arith in subst (λ (j : ℕ). place plan j ≤ 0) e (omega arith)
  place_up i (suc k) l =
      ⊎_elim
      (λ e. subst (λ (j : ℕ). place plan j ≤ place plan (suc k)) (sym e) (omega arith))
      (λ m. let h = place_up i k (le_of_suc-le-suc m) in omega (arith, h))
      (eq-or-lt_of_le l)

  pub place_in : (i k at : ℕ) (b : Block) → i < k → at ≡ place plan i → b ≡ plan i → at + b.side * b.side ≤ place plan k
  place_in i k at b l e q = let h = place_up (i + 1) k (omega arith) in rw (place_more i at b e q) h

  -- each block has residuals
  pub count_up : (count : ℕ) → ((i : ℕ) → i < count → 4 ≤ (plan i).side) → count ≤ place plan count
  unfolding place
  count_up zero h = omega arith
  count_up (suc k) h =
      let m : 4 * 4 ≤ (plan k).side * (plan k).side = mul-le-mul (h k (omega arith)) (h k (omega arith)) in
      let n = count_up k (λ i l. h i (omega arith)) in
      omega (arith, m, n)
