-- Neighbours compared where prediction reads them, and what a predictor without edge filter is: it never falls where references rise, and
-- gives a constant back. Range and reach follow, once for all predictors. Assumes nothing.
use Rattle.std.specs.Prelude.{◌≡◌, ℕ, ◌*◌, ◌≤◌, ◌<◌}
use Rattle.std.proofs.Common.{subst, le_antisymm, arith}
use Rattle.h265.specs.Notation.{Neighbours}

-- neighbours that are nowhere above others, in the corner and in entries 0 .. 2n - 1
pub record Under (n : ℕ) (p q : Neighbours) : Type 0 where
  pub corner : p.corner ≤ q.corner
  pub above : (i : ℕ) → i < 2 * n → p.above i ≤ q.above i
  pub left : (i : ℕ) → i < 2 * n → p.left i ≤ q.left i

-- neighbours that agree there
pub record Agree (n : ℕ) (p q : Neighbours) : Type 0 where
  pub corner : p.corner ≡ q.corner
  pub above : (i : ℕ) → i < 2 * n → p.above i ≡ q.above i
  pub left : (i : ℕ) → i < 2 * n → p.left i ≡ q.left i

-- neighbours that are all v
abbrev pub even : ℕ → Neighbours
even v = record { corner = v; above = λ (i : ℕ). v; left = λ (i : ℕ). v }

pub record Mean (n : ℕ) (F : Neighbours → ℕ) : Type 0 where
  pub rises : (p q : Neighbours) → Under n p q → F p ≤ F q
  pub flat : (v : ℕ) → F (even v) ≡ v

pub agree_under : (n : ℕ) (p q : Neighbours) → Agree n p q → Under n p q × Under n q p
agree_under n p q a = (
  record {
    corner = let e = a.corner in omega arith;
    above = λ i h. let e = a.above i h in omega arith;
    left = λ i h. let e = a.left i h in omega arith;
  },
  record {
    corner = let e = a.corner in omega arith;
    above = λ i h. let e = a.above i h in omega arith;
    left = λ i h. let e = a.left i h in omega arith;
  },
)

module _ (n : ℕ) (F : Neighbours → ℕ) (m : Mean n F) where
  -- bounds of the neighbours it reads bound its value
  pub between : (lo hi : ℕ) (nb : Neighbours) → Under n (even lo) nb → Under n nb (even hi) → (lo ≤ F nb) × (F nb ≤ hi)
  between lo hi nb p q =
      (subst (λ (k : ℕ). k ≤ F nb) (m.flat lo) (m.rises _ _ p), subst (λ (k : ℕ). F nb ≤ k) (m.flat hi) (m.rises _ _ q))

  -- entries from 2n on do not reach it
  pub alone : (p q : Neighbours) → Agree n p q → F p ≡ F q
  alone p q a = let u = agree_under n p q a in le_antisymm (m.rises p q u.0) (m.rises q p u.1)
