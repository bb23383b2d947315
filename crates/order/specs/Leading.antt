-- How many hold before one fails: the count told by what it is, and compared with another. Assumes nothing.
use Rattle.std.specs.Prelude.{◌≡◌, refl, Bool, true, false, cond, ◌⊎◌, ℕ, zero, suc, ◌+◌, ◌≤◌, ◌<◌}
use Rattle.std.proofs.Common.{sym, ap, ◌∙◌, inl, inr, ⊎_elim, arith}
use Rattle.std.proofs.Math.Decide.{ℕ_discrete}
use Rattle.order.specs.Reach.{leading_from, leading}

-- k is the count: all before it hold, and it is the end or fails
pub record Leads (f : ℕ → Bool) (i m k : ℕ) : Type 0 where
  pub from : i ≤ k
  pub most : k ≤ i + m
  pub hold : (j : ℕ) → i ≤ j → j < k → f j ≡ true
  pub stop : (k ≡ i + m) ⊎ (f k ≡ false)

pub leading_from_is : (f : ℕ → Bool) (i m k : ℕ) → Leads f i m k → leading_from f i m ≡ k
unfolding leading_from
leading_from_is f i zero k l = omega (arith, l.from, l.most)
leading_from_is f i (suc m) k l = go (ℕ_discrete i k) (leading_from_is f (suc i) m k)
  where
    go : Dec (i ≡ k) → (Leads f (suc i) m k → leading_from f (suc i) m ≡ k) → cond (f i) (leading_from f (suc i) m) i ≡ k
    go (yes e) ih =
        let b : f i ≡ false = ⊎_elim (λ q. absurd (omega (arith, q, e))) (λ q. ap f e ∙ q) l.stop in
        simp b e
    go (no n) ih =
        let h : i < k = omega (arith, l.from) in
        let b : f i ≡ true = l.hold i (omega arith) h in
        simp b (ih (record {
          from = h;
          most = omega (arith, l.most);
          hold = λ j p q. l.hold j (omega arith) q;
          stop = ⊎_elim
              (λ q. inl (omega (arith, q))) inr l.stop;
        }))

one_more : (f : ℕ → Bool) (i m k : ℕ) → f i ≡ true → Leads f (suc i) m k → Leads f i (suc m) k
one_more f i m k e r =
    record {
      from = omega (arith, r.from);
      most = omega (arith, r.most);
      hold = λ j p q. at j p q (ℕ_discrete i j);
      stop = ⊎_elim (λ q. inl (omega (arith, q))) inr r.stop;
    }
  where
    at : (j : ℕ) → i ≤ j → j < k → Dec (i ≡ j) → f j ≡ true
    at j p q (yes s) = ap f (sym s) ∙ e
    at j p q (no n) = r.hold j (omega arith) q

pub leading_from_leads : (f : ℕ → Bool) (i m : ℕ) → Leads f i m (leading_from f i m)
unfolding leading_from
leading_from_leads f i zero = record {
  from = omega arith;
  most = omega arith;
  hold = λ j p q. absurd (omega arith);
  stop = inl
      (omega arith);
}
leading_from_leads f i (suc m) = go (f i) refl (leading_from_leads f (suc i) m)
  where
    go : (b : Bool) → f i ≡ b → Leads f (suc i) m (leading_from f (suc i) m) → Leads f i (suc m) (cond b (leading_from f (suc i) m) i)
    go true e r = one_more f i m (leading_from f (suc i) m) e r
    go false e r = record { from = omega arith; most = omega arith; hold = λ j p q. absurd (omega arith); stop = inr e }

pub leading_is : (f : ℕ → Bool) (m k : ℕ) → k ≤ m → ((j : ℕ) → j < k → f j ≡ true) → (k ≡ m) ⊎ (f k ≡ false) → leading f m ≡ k
leading_is f m k h all stop = leading_from_is f 0 m k
    (record { from = omega arith; most = omega arith; hold = λ j p q. all j q; stop = ⊎_elim (λ e. inl (omega arith)) inr stop })

pub leading_none : (f : ℕ → Bool) (m : ℕ) → f 0 ≡ false → leading f m ≡ 0
leading_none f m e = leading_is f m 0 (omega arith) (λ j q. absurd (omega arith)) (inr e)

-- a count that ends earlier, where the other has its first failure
pub leading_cut : (f g : ℕ → Bool) (m k : ℕ) → k ≤ m → ((i : ℕ) → i < k → f i ≡ g i) → (k < m → f k ≡ false) → leading f m ≡ leading g k
leading_cut f g m k h same end =
    let l = leading_from_leads g 0 k in
    leading_is f m (leading g k) (omega (arith, l.most)) (λ j q. same j (omega (arith, l.most)) ∙ l.hold j (omega arith) q)
    (⊎_elim (λ e. last (ℕ_discrete (leading g k) m) e) (λ e. stops (ℕ_discrete (leading g k) k) e) l.stop)
  where
    last : Dec (leading g k ≡ m) → leading g k ≡ 0 + k → (leading g k ≡ m) ⊎ (f (leading g k) ≡ false)
    last (yes q) e = inl q
    last (no n) e =
        let z : leading g k ≡ k = omega arith in
        inr (ap f z ∙ end (less (ℕ_discrete k m) z))
      where
        less : Dec (k ≡ m) → leading g k ≡ k → k < m
        less (yes q) z = absurd (n (z ∙ q))
        less (no q) z = omega arith

    stops : Dec (leading g k ≡ k) → g (leading g k) ≡ false → (leading g k ≡ m) ⊎ (f (leading g k) ≡ false)
    stops (yes q) e = last (ℕ_discrete (leading g k) m) (omega (arith, q))
    stops (no q) e = inr (same (leading g k) (omega (arith, (leading_from_leads g 0 k).most)) ∙ e)
