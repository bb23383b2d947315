-- The standard's shift by log2 n + 1 divides by 2n, so that planar and the DC value are quotients. Rests on the standard's clauses.
use Rattle.std.specs.Prelude.{ℕ, ◌+◌, ◌-◌, ◌*◌, ◌/◌, ◌^◌, ◌≤◌, ◌<◌, ◌≡◌, refl}
use Rattle.std.proofs.Common.{ap, ◌∙◌, subst, add-one, arith}
use Rattle.domain.specs.Facts.{Size, at_size}
use Rattle.h265.specs.Notation.{Neighbours, log2, halvings}
use Rattle.h265.specs.Planar.{planar}
use Rattle.h265.specs.Dc.{sum_to, dc_val}
use Rattle.samples.specs.taps.Taps.{mean_of}
use Rattle.samples.specs.taps.Laws.{mean_is}
use Rattle.predict.specs.planar_dc.Flat.{planar_sample}

halves : (n : ℕ) → Size n → 2 ^ (log2 n + 1) ≡ 2 * n
unfolding halvings
halves n s = at_size (λ (m : ℕ). 2 ^ (log2 m + 1) ≡ 2 * m) refl refl refl refl n s

pub planar_mix : (n : ℕ) → Size n → (nb : Neighbours) (y x : ℕ) → planar_sample n y x (nb.left y) (nb.above n) (nb.above x) (nb.left n)
    ≡ planar n nb x y
unfolding planar_sample planar
planar_mix n s nb y x =
    rw (halves n s)
    (ap (λ (k : ℕ). k / (2 * n))
    (let e : (n - 1 - x) * nb.left y + (x + 1) * nb.above n + ((n - 1 - y) * nb.above x + (y + 1) * nb.left n) + n
    ≡ (n - 1 - x) * nb.left y + (x + 1) * nb.above n + (n - 1 - y) * nb.above x + (y + 1) * nb.left n + n = omega arith in
    e))

-- s is the sum of n samples of both rows
pub record Total (nb : Neighbours) (n s : ℕ) : Type 0 where
  pub is : s ≡ sum_to nb.above n + sum_to nb.left n
  pub most : s ≤ 131070 * n

-- the sum, as a loop makes it
pub total_none : (nb : Neighbours) → Total nb 0 0
unfolding sum_to
total_none nb = record { is = refl; most = omega arith }

pub total_more : (nb : Neighbours) (i s : ℕ) → Total nb i s → nb.above i < 65536 → nb.left i < 65536
    → Total nb (i + 1) (s + (nb.above i + nb.left i))
unfolding sum_to
total_more nb i s t a l = record { is = let e = t.is in rw add-one (omega arith); most = let h = t.most in omega arith }

pub total_done : (nb : Neighbours) {i k s : ℕ} → i ≤ k → k ≤ i → Total nb i s → Total nb k s
total_done nb {i} {k} {s} p q t = subst (λ (m : ℕ). Total nb m s) (let e : i ≡ k = omega arith in e) t

-- the DC value as a quotient, and as the code's mean
pub dc_quotient : (n : ℕ) → Size n → (nb : Neighbours) (s : ℕ) → s ≡ sum_to nb.above n + sum_to nb.left n → (s + n) / (2 * n)
    ≡ dc_val n nb
unfolding dc_val
dc_quotient n s nb all e = rw (e, halves n s)

pub dc_mean : (n : ℕ) → Size n → (nb : Neighbours) (s : ℕ) → Total nb n s → mean_of n s ≡ dc_val n nb
dc_mean n s nb all t = mean_is n all s t.most ∙ dc_quotient n s nb all t.is
