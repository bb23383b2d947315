-- Document 01, 'use from C': what an entry on bytes gives back and writes. Assumes nothing.
use Rattle.std.specs.Prelude.{◌≡◌, refl, List, ℕ, zero, suc}
use Rattle.std.proofs.Common.{sym, ◌∙◌, arith}
use Rattle.std.proofs.Math.Path.{ap, ap₂}
use Rattle.laws.specs.Choose.{served, worked, unserved}

-- what a call gives back, and what its buffer then holds
pub record Written : Type 0 where
  pub number : ℕ
  pub bytes : List ℕ

abbrev pub wrote : ℕ → List ℕ → Written
wrote k b = record { number = k; bytes = b }

-- a call with the number k: a refused one leaves the buffer as it was
unfoldable pub entry : ℕ → List ℕ → List ℕ → Written
entry k work kept = wrote k (served k work kept)

-- served, and refused
module _ (n : ℕ) (work kept : List ℕ) {k : ℕ} (e : k ≡ n) where
  pub done : {out : List ℕ} → k ≡ 0 → out ≡ work → wrote k out ≡ entry n work kept
  unfolding entry
  done z w = ap₂ wrote e (w ∙ worked n work kept (sym e ∙ z))

  pub refused : (k ≡ 0 → ⊥) → wrote k kept ≡ entry n work kept
  unfolding entry
  refused h = ap₂ wrote e (unserved n work kept (λ q. h (e ∙ q)))

-- the same work, where it is done at all
pub same_entry : (n : ℕ) (work other kept : List ℕ) → (n ≡ 0 → work ≡ other) → entry n work kept ≡ entry n other kept
unfolding entry
same_entry zero work other kept h = ap (wrote 0) (h refl)
same_entry (suc n) work other kept h = let never : suc n ≡ 0 → ⊥ = λ q. omega (arith, q) in
    sym (refused (suc n) work kept refl never) ∙ refused (suc n) other kept refl never
