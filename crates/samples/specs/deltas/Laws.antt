-- The round trip of a residual, its range, and its sum with a sample as the machine has it. Assumes nothing.
use Rattle.std.specs.Prelude.{◌≡◌, ℕ, suc, ◌-◌, ◌<◌, ◌≤◌, Bool, true, false, cond, ℤ, pos, negsuc, ◌+ℤ◌, ◌-ℤ◌, int_lt, nat_lt, refl}
use Rattle.std.proofs.Common.{ap, ◌∙◌, ⊎_elim, arith, le-leb, ltb-true, ltb-false}
use Rattle.std.proofs.lemmas.Bool.{false≢true}
use Rattle.std.proofs.Math.Nat.{min-eq_left}
use Rattle.std.specs.Int.Signed.{mag}
use Rattle.std.proofs.Math.IntN.{sub_ℕ, +ℤ_comm, -ℤ-+ℤ_cancel}
use Rattle.laws.specs.Diff.{order, sub_neg, sub_pos}
use Rattle.domain.specs.helpers.Ways.{whole}
use Rattle.h265.specs.Notation.{clip_to}
use Rattle.samples.specs.deltas.Deltas.{residual_ok}

-- a residual added back gives the original
pub round_trip : (m o p : ℕ) → o ≤ m → clip_to m (pos p +ℤ (pos o -ℤ pos p)) ≡ o
round_trip m o p h = ap (clip_to m) (+ℤ_comm (pos p) (pos o -ℤ pos p) ∙ -ℤ-+ℤ_cancel (pos o) (pos p)) ∙ min-eq_left h

-- the residual of two 16-bit samples is in range
pub in_range_of : (o p : ℕ) → o ≤ 65535 → p ≤ 65535 → residual_ok (pos o -ℤ pos p) ≡ true
in_range_of o p h k =
    rw (whole o p)
    (⊎_elim
    (λ l. rw (sub_neg o p l) (le-leb (suc (p - suc o)) 65535 (omega arith)))
    (λ l. rw (sub_pos o p l) (le-leb (o - p) 65535 (omega arith)))
    (order o p))

-- a sum that fits, and is clipped as the sum with r is: t is r, but no more than 65535
pub record Brought (r t : ℤ) : Type 0 where
  pub fits : (p : ℕ) → p < 65536 → mag (pos p +ℤ t) < 2147483648
  pub same : (p m : ℕ) → m < 65536 → clip_to m (pos p +ℤ t) ≡ clip_to m (pos p +ℤ r)

pub brought_down : (r : ℤ) → int_lt (pos 65535) r ≡ true → Brought r (pos 65535)
brought_down (pos k) e = let l = ltb-true 65535 k e in record { fits = λ p h. omega arith; same = λ p m h. omega arith }
brought_down (negsuc k) e = absurd (false≢true e)

pub brought_as_is : (r : ℤ) → mag r < 2147483648 → int_lt (pos 65535) r ≡ false → Brought r r
brought_as_is (pos k) f e = let l = ltb-false 65535 k e in record { fits = λ p h. omega arith; same = λ p m h. refl }
brought_as_is (negsuc k) f e = record { fits = λ p h. under p h; same = λ p m h. refl }
  where
    under : (p : ℕ) → p < 65536 → mag (sub_ℕ p (suc k)) < 2147483648
    under p h = go (nat_lt p (suc k))
      where
        go : (b : Bool) → mag (cond b (negsuc (suc k - suc p)) (pos (p - suc k))) < 2147483648
        go true = omega arith
        go false = omega arith
