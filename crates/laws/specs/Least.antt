-- The first of several candidates whose value is the least, and the running minimum that finds it. Over any values. Assumes nothing.
use Rattle.std.specs.Prelude.{◌≡◌, ℕ, ◌+◌, ◌≤◌, ◌<◌}
use Rattle.std.proofs.Common.{⊎_elim, arith}
use Rattle.laws.specs.Diff.{order}

-- of the candidates 0 to k - 1, m has the value s: no candidate does better, and every lower one does worse
pub record FirstLeast (f : ℕ → ℕ) (k m s : ℕ) : Type 0 where
  pub inside : m < k
  pub is : s ≡ f m
  pub least : (j : ℕ) → j < k → s ≤ f j
  pub first : (j : ℕ) → j < m → s < f j

module _ (f : ℕ → ℕ) (k : ℕ) where
  -- one candidate at most is such, with one value
  pub least_once : {m s m' s' : ℕ} → FirstLeast f k m s → FirstLeast f k m' s' → (m ≡ m') × (s ≡ s')
  least_once {m} {s} {m'} {s'} a b =
      let p = a.least m' b.inside in
      let q = b.least m a.inside in
      let value : s ≡ s' = omega (arith, a.is, b.is) in (
        ⊎_elim
            (λ l. absurd (let w = b.first m l in omega (arith, a.is)))
            (λ l. ⊎_elim (λ h. absurd (let w = a.first m' h in omega (arith, b.is))) (λ h. omega arith) (order m' m))
            (order m m'),
        value,
      )

  -- the next candidate does better: it takes over
  pub least_taken : {m s v : ℕ} → FirstLeast f k m s → v ≡ f k → v < s → FirstLeast f (k + 1) k v
  least_taken {m} {s} {v} a e l =
      record { inside = omega arith; is = e; least = λ j h. ⊎_elim (λ b. below j b) (λ b. same j h b) (order j k); first = worse }
    where
      worse : (j : ℕ) → j < k → v < f j
      worse j h = omega (arith, a.least j h)

      below : (j : ℕ) → j < k → v ≤ f j
      below j h = omega (arith, worse j h)

      same : (j : ℕ) → j < k + 1 → k ≤ j → v ≤ f j
      same j h b = let q : j ≡ k = omega arith in rw q (omega arith)

  -- it does not: what was held stays
  pub least_kept : {m s : ℕ} → FirstLeast f k m s → s ≤ f k → FirstLeast f (k + 1) m s
  least_kept {m} {s} a l =
      record { inside = omega (arith, a.inside); is = a.is; least = λ j h. ⊎_elim (a.least j) (same j h) (order j k); first = a.first }
    where
      same : (j : ℕ) → j < k + 1 → k ≤ j → s ≤ f j
      same j h b = let q : j ≡ k = omega arith in rw q l

-- one candidate alone
pub least_one : (f : ℕ → ℕ) {s : ℕ} → s ≡ f 0 → FirstLeast f 1 0 s
least_one f {s} e =
    record { inside = omega arith; is = e; least = only; first = λ j h. absurd (omega arith) }
  where
    only : (j : ℕ) → j < 1 → s ≤ f j
    only j h = let q : j ≡ 0 = omega arith in rw q (omega arith)
