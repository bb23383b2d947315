-- The edge with no number below 0, and what the samples are where a fraction is below 32 or a sum is that of 2n samples. Assumes nothing.
use Rattle.std.specs.Prelude.{◌≡◌, ℕ, zero, suc, ◌+◌, ◌-◌, ◌*◌, ◌/◌, ◌%◌, ◌<◌, ◌≤◌, min, pos, ◌-ℤ◌, refl}
use Rattle.std.proofs.Common.{ap, ◌∙◌, ⊎_elim, arith}
use Rattle.std.proofs.Math.IntN.{sub_ℕ}
use Rattle.laws.specs.Diff.{order, sub_neg, sub_pos, as_sub}
use Rattle.domain.specs.Facts.{Size, at_size}
use Rattle.samples.specs.taps.Taps.{interp_of, mean_of, edge_of}

-- a fraction below 32 is itself by 32
pub by_fraction : (f x y : ℕ) → f < 32 → interp_of (f % 32) x y ≡ interp_of f x y
by_fraction f x y h = ap (λ (k : ℕ). interp_of k x y) (let e : f % 32 ≡ f = omega arith in e)

-- the mean of 2n samples of 16 bits
pub mean_is : (n all : ℕ) → Size n → all ≤ 131070 * n → mean_of n all ≡ (all + n) / (2 * n)
unfolding mean_of
mean_is n all s h =
    at_size (λ (m : ℕ). all ≤ 131070 * m → mean_of m all ≡ (all + m) / (2 * m)) (λ l. omega arith) (λ l. omega arith) (λ l. omega arith)
    (λ l. omega arith) n s h

-- an edge sample with no number below 0
minus : (l c : ℕ) → pos l -ℤ pos c ≡ sub_ℕ l c
minus l zero = ap pos (let e : l + 0 ≡ l = omega arith in e) ∙ as_sub l
minus l (suc c) = refl

pub edge_low : (m a l c : ℕ) → c < 65536 → a + (l + 65536 - c) / 2 < 32768 → 0 ≡ edge_of m a l c
edge_low m a l c k h =
    rw (minus l c, sub_neg l c (omega arith), sub_neg a (suc ((c - suc l) / 2)) (omega arith))

pub edge_high : (m a l c : ℕ) → c < 65536 → 32768 ≤ a + (l + 65536 - c) / 2 → min (a + (l + 65536 - c) / 2 - 32768) m ≡ edge_of m a l c
edge_high m a l c b h =
    ⊎_elim
    (λ k. rw (minus l c, sub_neg l c k, sub_pos a (suc ((c - suc l) / 2)) (omega arith)) (ap (λ (v : ℕ). min v m) (omega arith)))
    (λ k. rw (minus l c, sub_pos l c k) (ap (λ (v : ℕ). min v m) (omega arith)))
    (order l c)
