-- Sums over an index: one more term, a stretch more, term by term, exchanged, a stretch as a sum over all, and sums of which one term is
-- left. Assumes nothing.
use Rattle.std.specs.Prelude.{◌≡◌, Bool, cond, ◌&&◌, leb, ltb}
use Rattle.std.proofs.Math.Path.{refl, sym, ap, ap₂}
use Rattle.std.proofs.Common.{◌∙◌, add-suc, add_assoc, add-mul, add-one, arith, le-leb, lt-ltb, le-ltb}
use Prim.Native.Nat.{ℕ, zero, suc, ◌+◌, ◌-◌, ◌*◌, ◌≤◌, ◌<◌}
use Rattle.std.proofs.Math.Nat.{add-zero}
use Rattle.std.proofs.Math.Decide.{ℕ_discrete}
use Rattle.std.proofs.lemmas.Bool.{lt-leb}

-- f 0 + .. + f (k - 1)
unfoldable pub total : (ℕ → ℕ) → ℕ → ℕ
total f zero = 0
total f (suc k) = total f k + f k

module _ (f : ℕ → ℕ) where
  pub total_none : 0 ≡ total f 0
  unfolding total
  total_none = refl

  pub total_more : (k : ℕ) {s v : ℕ} → s ≡ total f k → v ≡ f k → s + v ≡ total f (k + 1)
  unfolding total
  total_more k e q = rw (add-one, e, q)

  -- a stretch that goes on where another ended
  joined : (j k : ℕ) → total f j + total (λ i. f (j + i)) k ≡ total f (j + k)
  unfolding total
  joined j zero = add-zero (total f j) ∙ ap (total f) (sym (add-zero j))
  joined j (suc k) =
      sym (add_assoc (total f j) (total (λ i. f (j + i)) k) (f (j + k)))
      ∙ ap (λ (s : ℕ). s + f (j + k)) (joined j k) ∙ ap (total f) (sym (add-suc j k))

  pub total_join : (j k : ℕ) {s v : ℕ} → s ≡ total f j → v ≡ total (λ i. f (j + i)) k → s + v ≡ total f (j + k)
  total_join j k e q = ap₂ (λ (a b : ℕ). a + b) e q ∙ joined j k

  -- sums of the same
  pub total_same : (g : ℕ → ℕ) (k : ℕ) → ((i : ℕ) → i < k → f i ≡ g i) → total f k ≡ total g k
  unfolding total
  total_same g zero h = refl
  total_same g (suc k) h = ap₂ (λ (a b : ℕ). a + b) (total_same g k (λ i l. h i (omega arith))) (h k (omega arith))

pub total_zero : (f : ℕ → ℕ) (k : ℕ) → ((i : ℕ) → i < k → f i ≡ 0) → total f k ≡ 0
unfolding total
total_zero f zero h = refl
total_zero f (suc k) h = ap₂ (λ (a b : ℕ). a + b) (total_zero f k (λ i l. h i (omega arith))) (h k (omega arith))

pub total_plus : (f g : ℕ → ℕ) (k : ℕ) → total (λ i. f i + g i) k ≡ total f k + total g k
unfolding total
total_plus f g zero = refl
total_plus f g (suc k) = omega (arith, total_plus f g k)

-- rows of columns are columns of rows
pub total_turned : (g : ℕ → ℕ → ℕ) (a b : ℕ) → total (λ i. total (g i) b) a ≡ total (λ j. total (λ i. g i j) a) b
unfolding total
total_turned g zero b = sym (total_zero (λ _. 0) b (λ i l. refl))
total_turned g (suc a) b =
    ap (λ (s : ℕ). s + total (g a) b) (total_turned g a b) ∙ sym (total_plus (λ j. total (λ i. g i j) a) (g a) b)

-- the lesser of two sums, and a part of a sum
pub total_most : (f g : ℕ → ℕ) (k : ℕ) → ((i : ℕ) → i < k → f i ≤ g i) → total f k ≤ total g k
unfolding total
total_most f g zero h = omega arith
total_most f g (suc k) h = omega (arith, total_most f g k (λ i l. h i (omega arith)), h k (omega arith))

pub total_times : (f : ℕ → ℕ) (v k : ℕ) → total (λ i. f i * v) k ≡ total f k * v
unfolding total
total_times f v zero = omega arith
total_times f v (suc k) = ap (λ (s : ℕ). s + f k * v) (total_times f v k) ∙ sym (add-mul (total f k) (f k) v)

pub total_level : (v k : ℕ) → total (λ _. v) k ≡ k * v
unfolding total
total_level v zero = omega arith
total_level v (suc k) = omega (arith, total_level v k)

pub total_upto : (f : ℕ → ℕ) (j k : ℕ) → j ≤ k → total f j ≤ total f k
total_upto f j k h =
    let e : j + (k - j) ≡ k = omega arith in
    omega (arith, total_join f j (k - j) refl refl, ap (total f) e)

-- where all terms but one are 0
pub total_one : (f : ℕ → ℕ) (k j : ℕ) → j < k → ((i : ℕ) → i < k → (i ≡ j → ⊥) → f i ≡ 0) → total f k ≡ f j
unfolding total
total_one f zero j l h = absurd (omega arith)
total_one f (suc k) j l h = go (λ m. total_one f k j m (λ i n q. h i (omega arith) q)) (ℕ_discrete k j)
  where
    go : (j < k → total f k ≡ f j) → Dec (k ≡ j) → total f k + f k ≡ f j
    go ih (yes e) =
        let z = total_zero f k (λ i m. h i (omega arith) (λ q. omega (arith, q, e, m))) in
        omega (arith, z, ap f e)
    go ih (no d) = omega (arith, h k (omega arith) d, ih (omega (arith, d)))

-- whether i is one of the n from a on
abbrev pub in_stretch : ℕ → ℕ → ℕ → Bool
in_stretch a n i = leb a i && ltb i (a + n)

-- a stretch, as a sum over all with the others left out
pub total_window : (f : ℕ → ℕ) (a n k : ℕ) → a + n ≤ k → total (λ i. f (a + i)) n ≡ total (λ i. cond (in_stretch a n i) (f i) 0) k
total_window f a n k h =
    let g : (ℕ → ℕ) = λ i. cond (in_stretch a n i) (f i) 0 in
    let rest : ℕ = k - (a + n) in
    let e : a + n + rest ≡ k = omega arith in
    let before = total_zero g a (λ i l. rw (lt-leb a i l)) in
    let after = total_zero (λ i. g (a + n + i)) rest
    (λ i l. rw (le-leb a (a + n + i) (omega arith), le-ltb (a + n + i) (a + n) (omega arith))) in
    let here = total_same (λ i. f (a + i)) (λ i. g (a + i)) n
    (λ i l. sym (rw (le-leb a (a + i) (omega arith), lt-ltb (a + i) (a + n) (omega arith)))) in
    let one = total_join g a n (sym before) here in
    let two = total_join g (a + n) rest one (sym after) in
    omega (arith, two, ap (total g) e)
