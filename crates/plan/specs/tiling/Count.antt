-- How many of a run of numbers hold, and how much of a piece lies below a limit: what the counting of cells goes by. Assumes nothing.
use Rattle.std.specs.Prelude.{◌≡◌, Bool, true, false}
use Rattle.std.proofs.Math.Path.{refl, ap}
use Rattle.std.proofs.Common.{ap₂, ◌∙◌, zero-add, suc-add}
use Rattle.std.proofs.Math.Bool.{cond}
use Prim.Native.Nat.{ℕ, zero, suc, ◌+◌, ◌-◌, ◌*◌, ◌≤◌, ◌<◌, min}
use Rattle.std.proofs.Math.Nat.{add-zero}
use native.Mathlib.Omega.{arith}
use Rattle.std.proofs.Math.Decide.{dec_lt}

-- how many of the n numbers from a on hold
unfoldable pub cnt : (ℕ → Bool) → ℕ → ℕ → ℕ
cnt p a zero = 0
cnt p a (suc n) = cond (p a) 1 0 + cnt p (suc a) n

module _ (p : ℕ → Bool) where
  pub cnt_add : (a m n : ℕ) → cnt p a (m + n) ≡ cnt p a m + cnt p (a + m) n
  unfolding cnt
  cnt_add a zero n = rw (zero-add n, add-zero a) (omega arith)
  cnt_add a (suc m) n = rw (suc-add m n) (omega (
    arith,
    cnt_add (suc a) m n,
    ap (λ (u : ℕ). cnt p u n)
        (let e : suc a + m ≡ a + suc m = omega arith in e),
  ))

  pub cnt_all : (a n : ℕ) → ((i : ℕ) → a ≤ i → i < a + n → p i ≡ true) → cnt p a n ≡ n
  unfolding cnt
  cnt_all a zero h = refl
  cnt_all a (suc n) h = rw (h a (omega arith) (omega arith)) (omega (arith, cnt_all (suc a) n (λ i l m. h i (omega arith) (omega arith))))

  pub cnt_none : (a n : ℕ) → ((i : ℕ) → a ≤ i → i < a + n → p i ≡ false) → cnt p a n ≡ 0
  unfolding cnt
  cnt_none a zero h = refl
  cnt_none a (suc n) h = rw (h a (omega arith) (omega arith)) (omega (arith, cnt_none (suc a) n (λ i l m. h i (omega arith) (omega arith))))

  pub cnt_zero : (a n : ℕ) → n ≡ 0 → cnt p a n ≡ 0
  cnt_zero a n e = cnt_none a n (λ i l m. absurd (omega arith))

  -- from 0 on
  pub from_start : (m d : ℕ) → cnt p 0 (m + d) ≡ cnt p 0 m + cnt p m d
  from_start m d = cnt_add 0 m d ∙ ap (λ (u : ℕ). cnt p 0 m + cnt p u d) (zero-add m)

  pub cnt_mono : (m n : ℕ) → m ≤ n → cnt p 0 m ≤ cnt p 0 n
  cnt_mono m n h =
      let e : n ≡ m + (n - m) = omega arith in
      omega (arith, ap (cnt p 0) e, from_start m (n - m))

  -- a number that holds is counted by the next
  pub cnt_up : (m n : ℕ) → p m ≡ true → m < n → cnt p 0 m < cnt p 0 n
  unfolding cnt
  cnt_up m n e l =
      let one : cnt p m 1 ≡ 1 = rw e refl in
      omega (arith, from_start m 1, one, cnt_mono (m + 1) n (omega arith))

  -- each count below the last is met at a number that holds
  pub cnt_meets : (n v : ℕ) → v < cnt p 0 n → (m : ℕ) × (m < n) × (p m ≡ true) × (cnt p 0 m ≡ v)
  unfolding cnt
  cnt_meets zero v h = absurd (omega arith)
  cnt_meets (suc n) v h = go (cnt_meets n v) (dec_lt v (cnt p 0 n)) (p n) refl
    where
      more : (b : Bool) → p n ≡ b → cnt p 0 (suc n) ≡ cnt p 0 n + cond b 1 0
      more b e = ap (cnt p 0) (let q : suc n ≡ n + 1 = omega arith in q) ∙ from_start n 1
          ∙ ap (λ (c : Bool). cnt p 0 n + (cond c 1 0 + 0)) e
          ∙ (let q : cnt p 0 n + (cond b 1 0 + 0) ≡ cnt p 0 n + cond b 1 0 = omega arith in q)

      go : (v < cnt p 0 n → (m : ℕ) × (m < n) × (p m ≡ true) × (cnt p 0 m ≡ v)) → Dec (v < cnt p 0 n) → (b : Bool) → p n ≡ b → (m : ℕ)
          × (m < suc n) × (p m ≡ true) × (cnt p 0 m ≡ v)
      go ih (yes l) b e = let s = ih l in (s.0, omega (arith, s.1), s.2, s.3)
      go ih (no l) true e = (n, omega arith, e, omega (arith, more true e))
      go ih (no l) false e = absurd (omega (arith, more false e))

  -- a run in four parts
  pub four : (q n N : ℕ) → N ≡ 4 * n → cnt p (q * N) N
      ≡ cnt p ((4 * q + 0) * n) n + cnt p ((4 * q + 1) * n) n + cnt p ((4 * q + 2) * n) n + cnt p ((4 * q + 3) * n) n
  four q n N e =
      let a = cnt_add (q * N) n (n + (n + n)) in
      let b = cnt_add (q * N + n) n (n + n) in
      let c = cnt_add (q * N + n + n) n n in
      let whole : N ≡ n + (n + (n + n)) = omega arith in
      let z : q * N ≡ (4 * q + 0) * n = omega (arith, ap (λ (u : ℕ). q * u) e) in
      let at : (d u : ℕ) → u ≡ d → cnt p u n ≡ cnt p d n = λ d u h. ap (λ (v : ℕ). cnt p v n) h in
      omega (
        arith,
        a,
        b,
        c,
        ap (cnt p (q * N)) whole,
        at ((4 * q + 0) * n) (q * N) z,
        at ((4 * q + 1) * n) (q * N + n) (omega arith),
        at
            ((4 * q + 2) * n) (q * N + n + n) (omega arith),
        at ((4 * q + 3) * n) (q * N + n + n + n) (omega arith),
      )

-- how much of the piece v of length s is below m
abbrev pub part : ℕ → ℕ → ℕ → ℕ
part s m v = min s (m - v * s)

pub halves : (s S m v : ℕ) → S ≡ 2 * s → part S m v ≡ part s m (2 * v + 0) + part s m (2 * v + 1)
halves s S m v e = omega (arith, ap (λ (u : ℕ). v * u) e)

-- sums of parts
pub glue : (C c0 c1 c2 c3 u v A B D E : ℕ) → C ≡ c0 + c1 + c2 + c3 → c0 ≡ A * D → c1 ≡ A * E → c2 ≡ B * D → c3 ≡ B * E → u ≡ A + B → v
    ≡ D + E → C ≡ u * v
glue C c0 c1 c2 c3 u v A B D E h h0 h1 h2 h3 p q = omega (arith, ap₂ ◌*◌ p q)

pub two : (C a b P m n t : ℕ) → C ≡ a + b → a ≡ P * m → b ≡ P * n → t ≡ m + n → C ≡ P * t
two C a b P m n t h p q e = omega (arith, ap (λ (u : ℕ). P * u) e)
