-- Answers by tests: the first check that fails, what a served or a refused call gives, and how a test is taken apart. Assumes nothing.
use Rattle.std.specs.Prelude.{◌≡◌, refl, Bool, true, false, cond, ◌&&◌, ◌||◌, List, [], ◌∷◌, ◌⊎◌, ℕ, ◌<◌, eqb}
use Rattle.std.proofs.Common.{ap₂, true≢false, inl, inr, arith, eq-eqb, ne_eqb}
use Rattle.std.proofs.lemmas.Bool.{false≢true}

-- a check: the number that a call gives where the test does not hold
pub record Check : Type 0 where
  pub number : ℕ
  pub holds : Bool

infix 25 ◌unless◌
abbrev pub ◌unless◌ : ℕ → Bool → Check
k unless b = record { number = k; holds = b }

-- the number of the first check that fails, 0 where all hold
abbrev pub first_fail : List Check → ℕ
first_fail [] = 0
first_fail (c ∷ cs) = cond c.holds (first_fail cs) c.number

-- what a call with the number k gives, or leaves behind: work where it is served, kept where it is refused
abbrev pub served : {A : Type 0} → ℕ → A → A → A
served k work kept = cond (eqb k 0) work kept

module _ {A : Type 0} where
  -- a definition by tests, answered test by test
  pub if_yes : (b : Bool) (x y z : A) → b ≡ true → z ≡ x → z ≡ cond b x y
  if_yes true x y z e h = h
  if_yes false x y z e h = absurd (false≢true e)

  pub if_no : (b : Bool) (x y z : A) → b ≡ false → z ≡ y → z ≡ cond b x y
  if_no true x y z e h = absurd (true≢false e)
  if_no false x y z e h = h

  pub worked : (k : ℕ) (work kept : A) → k ≡ 0 → work ≡ served k work kept
  worked k work kept e = if_yes (eqb k 0) work kept work (eq-eqb k 0 e) refl

  pub unserved : (k : ℕ) (work kept : A) → (k ≡ 0 → ⊥) → kept ≡ served k work kept
  unserved k work kept e = if_no (eqb k 0) work kept kept (ne_eqb k 0 e) refl

-- a number of 0 says that the test held, and the checks after it
pub passed : (b : Bool) (rest k : ℕ) → 0 < k → cond b rest k ≡ 0 → (b ≡ true) × (rest ≡ 0)
passed true rest k h e = (refl, e)
passed false rest k h e = absurd (omega arith)

-- tests joined
pub both_true : (a b : Bool) → (a && b) ≡ true → (a ≡ true) × (b ≡ true)
both_true true b e = (refl, e)
both_true false b e = (e, absurd (false≢true e))

pub both_same : {a b x y : Bool} → a ≡ x → b ≡ y → (a && b) ≡ (x && y)
both_same p q = ap₂ (λ (u v : Bool). u && v) p q

pub either_true : (a b : Bool) → (a || b) ≡ true → (a ≡ true) ⊎ (b ≡ true)
either_true true b e = inl refl
either_true false b e = inr e
