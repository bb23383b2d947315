-- Turns with one scratch, over any call that has a contract: lenses are numbered, each holds things of its own, and they take turns in any
-- order. If no answer goes by what the scratch holds, each lens has the answers and the end of its own turns alone. Assumes nothing.
use Rattle.std.specs.Prelude.{◌≡◌, cond, eqb}
use Rattle.std.proofs.Math.Path.{ap}
use mathlib.Core.List.{List, [], ◌∷◌, map}
use Prim.Native.Nat.{ℕ}
use Rattle.promises.specs.demand3.Calls.{Made}

-- lists that are one have one head and one tail
head_or : {A : Type 0} → A → List A → A
head_or a [] = a
head_or a (b ∷ l) = b

tail_of_list : {A : Type 0} → List A → List A
tail_of_list [] = []
tail_of_list (b ∷ l) = l

pub same_head : {A : Type 0} {a b : A} {l m : List A} → a ∷ l ≡ b ∷ m → a ≡ b
unfolding head_or
same_head {a = a} e = ap (head_or a) e

pub same_tail : {A : Type 0} {a b : A} {l m : List A} → a ∷ l ≡ b ∷ m → l ≡ m
unfolding tail_of_list
same_tail e = ap tail_of_list e

-- a turn that was taken: whose it was, what it asked and what it was answered
pub record Turn (A R : Type 0) : Type 0 where
  pub lens : ℕ
  pub ask : A
  pub answer : R

module _ {A R : Type 0} where
  -- the turns of one lens, in their order
  unfoldable pub own : ℕ → List (Turn A R) → List (Turn A R)
  own l [] = []
  own l (t ∷ turns) = cond (eqb t.lens l) (t ∷ own l turns) (own l turns)

  abbrev pub asks_in : List (Turn A R) → List A
  asks_in = map (λ (t : Turn A R). t.ask)

  abbrev pub answers_in : List (Turn A R) → List R
  answers_in = map (λ (t : Turn A R). t.answer)

-- `gave l x a k r y m`: by its contract a call for lens l, which held x, asked for a with a scratch that held k; it was answered r, and
-- left y and a scratch that held m
module _ {S A R K : Type 0} (gave : ℕ → S → A → K → R → S → K → Type 0) where
  -- one turn of a lens, whatever the scratch held when it began and whatever it held after
  abbrev pub OneTurn : ℕ → S → Turn A R → S → Type 0
  OneTurn l x t y = (k : K) × (m : K) × gave l x t.ask k t.answer y m

  -- the same among the others: x and y say what every lens holds, and that of the others stays
  abbrev pub TurnAmong : (ℕ → S) → Turn A R → (ℕ → S) → Type 0
  TurnAmong x t y = OneTurn t.lens (x t.lens) t (y t.lens) × ((o : ℕ) → (o ≡ t.lens → ⊥) → y o ≡ x o)

  -- turns of one lens alone, and turns of all
  abbrev pub Alone : ℕ → S → List (Turn A R) → S → Type 0
  Alone l = Made (OneTurn l)

  abbrev pub Together : (ℕ → S) → List (Turn A R) → (ℕ → S) → Type 0
  Together = Made TurnAmong

  -- no answer goes by what the scratch holds, nor does what is left to the lens
  abbrev pub Blind : Type 0
  Blind =
      (l : ℕ) (x : S) (a : A) (k k₂ : K) (r r₂ : R) (y y₂ : S) (m m₂ : K) → gave l x a k r y m → gave l x a k₂ r₂ y₂ m₂
      → (r ≡ r₂) × (y ≡ y₂)

  -- where every call is answered, lenses can ask in any order
  abbrev pub Answered : Type 0
  Answered = (l : ℕ) (x : S) (a : A) → (r : R) × (y : S) × (k : K) × (m : K) × gave l x a k r y m
