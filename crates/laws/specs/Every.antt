-- A test of every entry of a list, entry by entry, and the loop that makes it. Assumes nothing.
use Rattle.std.specs.Prelude.{◌≡◌, Bool, ◌&&◌, leb, length, get_or}
use Rattle.std.proofs.Math.Path.{refl, ap}
use Rattle.std.proofs.Common.{◌∙◌, add-one, arith, leb-true, le-leb}
use Rattle.std.proofs.Math.Bool.{true, false}
use mathlib.Core.List.{List, [], ◌∷◌}
use Prim.Native.Nat.{ℕ, zero, suc, ◌+◌, ◌≤◌, ◌<◌}
use Rattle.laws.specs.Choose.{both_true, both_same}

unfoldable pub every : {A : Type 0} → (A → Bool) → List A → Bool
every p [] = true
every p (x ∷ l) = p x && every p l

-- the first k entries pass a test
unfoldable pub pass_to : {A : Type 0} → (A → Bool) → A → List A → ℕ → Bool
pass_to p z l zero = true
pass_to p z l (suc k) = pass_to p z l k && p (get_or l k z)

module _ {A : Type 0} (p : A → Bool) (z : A) where
  pub pass_none : (l : List A) → true ≡ pass_to p z l 0
  unfolding pass_to
  pass_none l = refl

  pub pass_more : (l : List A) (i : ℕ) {a b : Bool} → a ≡ pass_to p z l i → b ≡ p (get_or l i z) → (a && b) ≡ pass_to p z l (i + 1)
  unfolding pass_to
  pass_more l i e q = rw (add-one, e, q)

  and_assoc : (a b c : Bool) → ((a && b) && c) ≡ (a && (b && c))
  and_assoc true b c = refl
  and_assoc false b c = refl

  from_first : (x : A) (l : List A) (k : ℕ) → pass_to p z (x ∷ l) (suc k) ≡ (p x && pass_to p z l k)
  unfolding pass_to
  from_first x l zero = both_true_right (p x)
    where
      both_true_right : (b : Bool) → (true && b) ≡ (b && true)
      both_true_right true = refl
      both_true_right false = refl
  from_first x l (suc k) = ap (λ (b : Bool). b && p (get_or l k z)) (from_first x l k) ∙ and_assoc (p x) (pass_to p z l k) (p (get_or l k z))

  all_passed : (l : List A) → pass_to p z l (length l) ≡ every p l
  unfolding pass_to every
  all_passed [] = refl
  all_passed (x ∷ l) = from_first x l (length l) ∙ ap (λ (b : Bool). p x && b) (all_passed l)

  pub pass_done : (l : List A) (i : ℕ) {a : Bool} → i ≤ length l → length l ≤ i → a ≡ pass_to p z l i → a ≡ every p l
  pass_done l i h k e = e ∙ ap (pass_to p z l) (omega arith) ∙ all_passed l

-- a test of every entry, entry by entry
pub every_of : {A : Type 0} (p : A → Bool) (l : List A) (z : A) → ((i : ℕ) → i < length l → p (get_or l i z) ≡ true) → every p l ≡ true
unfolding every
every_of p [] z h = refl
every_of p (x ∷ l) z h = both_same (h 0 (omega arith)) (every_of p l z (λ i m. h (suc i) (omega arith)))

-- and back; past its end a list reads an entry that passes too
pub every-at : {A : Type 0} (p : A → Bool) (z : A) → p z ≡ true → (l : List A) → every p l ≡ true → (i : ℕ) → p (get_or l i z) ≡ true
unfolding every
every-at p z h [] e i = h
every-at p z h (x ∷ l) e zero = (both_true (p x) (every p l) e).0
every-at p z h (x ∷ l) e (suc i) = every-at p z h l (both_true (p x) (every p l) e).1 i

pub most_at : (m : ℕ) (l : List ℕ) → every (λ v. leb v m) l ≡ true → (i : ℕ) → get_or l i 0 ≤ m
most_at m l e i = leb-true (get_or l i 0) m (every-at (λ (v : ℕ). leb v m) 0 (le-leb 0 m (omega arith)) l e i)

pub most_all : (m : ℕ) (l : List ℕ) → ((i : ℕ) → i < length l → get_or l i 0 ≤ m) → every (λ v. leb v m) l ≡ true
most_all m l h = every_of (λ (v : ℕ). leb v m) l 0 (λ i n. le-leb (get_or l i 0) m (h i n))
