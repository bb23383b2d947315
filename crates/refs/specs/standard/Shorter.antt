-- A line of places against the shorter line without its first and its last place, by the search and the filling of H.265 8.4.4.2.2.
-- Where an end place is marked only if the place next to it is, both lines settle to the same values on the places that they share,
-- and the value of a place that is not marked is never looked at. Assumes nothing.
use Rattle.std.specs.Prelude.{◌≡◌, refl, Bool, true, cond, ltb}
use Rattle.std.proofs.Math.Path.{sym}
use Rattle.std.proofs.Common.{ap, ◌∙◌, arith, lt-ltb, le-ltb}
use Rattle.std.proofs.Math.Bool.{false}
use Rattle.std.proofs.lemmas.Bool.{false≢true}
use Rattle.std.proofs.Math.Logic.{⊎_elim}
use Prim.Native.Nat.{ℕ, zero, suc, ◌+◌, ◌-◌, ◌≤◌, ◌<◌}
use Rattle.std.proofs.Math.Decide.{dec_lt, ℕ_discrete}
use Rattle.h265.specs.Substitution.{first_marked, settled}
use Rattle.refs.specs.substitution.Line.{told}

pub clash : {b : Bool} → b ≡ true → b ≡ false → ⊥
clash p q = false≢true (sym q ∙ p)

-- what is found is marked, and nothing before it is
pub found_marked : (a : ℕ → Bool) (k m : ℕ) → first_marked a k m < k + m → a (first_marked a k m) ≡ true
unfolding first_marked
found_marked a k zero h = absurd (omega arith)
found_marked a k (suc m) h = go (a k) refl h (found_marked a (suc k) m)
  where
    go : (b : Bool) → a k ≡ b → cond b k (first_marked a (suc k) m) < k + suc m
        → (first_marked a (suc k) m < suc k + m → a (first_marked a (suc k) m) ≡ true)
        → a (cond b k (first_marked a (suc k) m)) ≡ true
    go true e l ih = e
    go false e l ih = ih (omega arith)

before_found : (a : ℕ → Bool) (k m q : ℕ) → k ≤ q → q < first_marked a k m → a q ≡ false
unfolding first_marked
before_found a k zero q h l = absurd (omega arith)
before_found a k (suc m) q h l = go (a k) refl l (before_found a (suc k) m q) (ℕ_discrete k q)
  where
    go : (b : Bool) → a k ≡ b → q < cond b k (first_marked a (suc k) m) → (suc k ≤ q → q < first_marked a (suc k) m → a q ≡ false)
        → Dec (k ≡ q) → a q ≡ false
    go true e r ih _ = absurd (omega arith)
    go false e r ih (yes s) = ap a (sym s) ∙ e
    go false e r ih (no n) = ih (omega arith) r

-- so it is no later than any marked place
pub found_by : (a : ℕ → Bool) (m k : ℕ) → a k ≡ true → first_marked a 0 m ≤ k
found_by a m k e = go (dec_lt k (first_marked a 0 m))
  where
    go : Dec (k < first_marked a 0 m) → first_marked a 0 m ≤ k
    go (yes h) = absurd (clash e (before_found a 0 m k (omega arith) h))
    go (no n) = omega arith

-- a is the longer line and b the shorter one, of t places
pub record Shared (a b : ℕ → Bool) (v w : ℕ → ℕ) (t : ℕ) : Type 0 where
  pub some : 0 < t
  pub same : (k : ℕ) → k < t → b k ≡ a (suc k)
  pub value : (k : ℕ) → k < t → b k ≡ true → w k ≡ v (suc k)
  pub low : a 0 ≡ true → a 1 ≡ true
  pub high : a (suc t) ≡ true → a t ≡ true

module _ {a b : ℕ → Bool} {v w : ℕ → ℕ} {t : ℕ} (s : Shared a b v w t) where
  abbrev long : ℕ
  long = first_marked a 0 (suc (suc t))

  abbrev short : ℕ
  short = first_marked b 0 t

  -- one search finds a place where the other does
  by : (k : ℕ) → k < t → a (suc k) ≡ true → short ≤ k
  by k l e = found_by b t k (s.same k l ∙ e)

  short_found : long < suc (suc t) → short < t
  short_found h = go long (found_marked a 0 (suc (suc t)) (omega arith)) h
    where
      go : (k : ℕ) → a k ≡ true → k < suc (suc t) → short < t
      go zero e l = omega (arith, by 0 s.some (s.low e))
      go (suc k) e l = at (dec_lt k t)
        where
          at : Dec (k < t) → short < t
          at (yes r) = omega (arith, by k r e)
          at (no n) =
              let next : a t ≡ true = s.high (ap a (omega arith) ∙ e) in
              omega (arith, by (t - 1) (omega arith) (ap a (omega arith) ∙ next))

  short_marked : short < t → a (suc short) ≡ true
  short_marked h = sym (s.same short h) ∙ found_marked b 0 t (omega arith)

  long_found : short < t → long < suc (suc t)
  long_found h = omega (arith, found_by a (suc (suc t)) (suc short) (short_marked h))

  -- and where the longer line's first place is not marked, the same place
  same_found : short < t → a 0 ≡ false → long ≡ suc short
  same_found h z = go long refl (found_marked a 0 (suc (suc t)) (omega (arith, long_found h)))
    where
      go : (k : ℕ) → long ≡ k → a k ≡ true → long ≡ suc short
      go zero q e = absurd (clash e z)
      go (suc k) q e =
          let up = found_by a (suc (suc t)) (suc short) (short_marked h) in
          omega (arith, by k (omega arith) e)

  -- the shared places in the end
  same_settled : short < t → (k : ℕ) → k < t → settled a v long (suc k) ≡ settled b w short k
  unfolding settled
  same_settled h zero l =
      ⊎_elim
      (λ (e : b 0 ≡ true). simp (e, sym (s.same 0 l) ∙ e) (sym (s.value 0 l e)))
      (λ (e : b 0 ≡ false).
      let f : a 1 ≡ false = sym (s.same 0 l) ∙ e in
      let z : a 0 ≡ false = ⊎_elim (λ (y : a 0 ≡ true). absurd (clash (s.low y) f)) (λ (n : a 0 ≡ false). n) (told (a 0)) in
      simp (e, f, z) (ap v (same_found h z) ∙ sym (s.value short h (found_marked b 0 t (omega arith)))))
      (told (b 0))
  same_settled h (suc k) l =
      let ih = same_settled h k (omega arith) in
      ⊎_elim
      (λ (e : b (suc k) ≡ true). simp (e, sym (s.same (suc k) l) ∙ e) (sym (s.value (suc k) l e)))
      (λ (e : b (suc k) ≡ false). simp (e, sym (s.same (suc k) l) ∙ e) ih)
      (told (b (suc k)))

  -- place k of the shorter line is place k + 1 of the longer one, in the end
  pub shorter : (neutral k : ℕ) → k < t
      → cond (ltb long (suc (suc t))) (settled a v long (suc k)) neutral ≡ cond (ltb short t) (settled b w short k) neutral
  shorter neutral k l = go (dec_lt short t)
    where
      go : Dec (short < t) → cond (ltb long (suc (suc t))) (settled a v long (suc k)) neutral
          ≡ cond (ltb short t) (settled b w short k) neutral
      go (yes h) = simp (lt-ltb short t h, lt-ltb long (suc (suc t)) (long_found h)) (same_settled h k l)
      go (no n) = simp (le-ltb short t (omega arith), le-ltb long (suc (suc t)) (none (dec_lt long (suc (suc t)))))
        where
          none : Dec (long < suc (suc t)) → suc (suc t) ≤ long
          none (yes r) = absurd (n (short_found r))
          none (no r) = omega arith
