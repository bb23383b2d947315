-- Document 01's table of numbers as rows of propositions, what it means that a number is given exactly when its row says, and how that
-- follows from tests. Assumes nothing.
use Rattle.std.specs.Prelude.{◌≡◌, refl, Bool, true, false, cond, not, ◌&&◌, List, [], ◌∷◌, ◌⊎◌, ◌↔◌, ℕ, ◌<◌, ◌≤◌, leb, ltb, eqb}
use Rattle.std.proofs.Common.{sym, ◌∙◌, subst, true≢false, inl, inr, ⊎_elim, arith, leb-true, leb-false, ltb-true, ltb-false, eqb-true, eq-eqb}
use Rattle.std.proofs.lemmas.Bool.{false≢true, eqb-false}
use Rattle.laws.specs.Choose.{served}

-- a row: an answer, and when it is given
pub record Row (A : Type 0) : Type 1 where
  pub answer : A
  pub holds : Type 0

infix 1 ◌when◌
abbrev pub ◌when◌ : {A : Type 0} → A → Type 0 → Row A
k when P = record { answer = k; holds = P }

infixl 2 ◌or◌
abbrev pub ◌or◌ : Type 0 → Type 0 → Type 0
P or Q = P ⊎ Q

-- k's row holds and no row before it; 0 where no row holds
abbrev pub Given : ℕ → List (Row ℕ) → Type 0
Given k [] = k ≡ 0
Given k (r ∷ rows) = cond (eqb k r.answer) r.holds ((¬ r.holds) × Given k rows)

-- each number is given exactly when its row holds and no row before it; 0 exactly when no row holds. With x : Exact n ((2 when P) ∷
-- (5 when Q) ∷ []), for one, x.given 5 is (n ≡ 5) ↔ ((¬ P) × Q), x.given 0 is (n ≡ 0) ↔ ((¬ P) × ((¬ Q) × (0 ≡ 0))), and x.given
-- 7 shuts 7 out.
pub record Exact (no : ℕ) (rows : List (Row ℕ)) : Type 0 where
  pub given : (k : ℕ) → (no ≡ k) ↔ Given k rows

-- a is the answer of the first row that holds, `done` where no row holds
abbrev pub First : {A : Type 0} → A → A → List (Row A) → Type 0
First done a [] = a ≡ done
First done a (r ∷ rows) = (r.holds × (a ≡ r.answer)) ⊎ ((¬ r.holds) × First done a rows)

-- an answer is given exactly when it is that of the first row that holds
pub record ExactFirst {A : Type 0} (done a : A) (rows : List (Row A)) : Type 0 where
  pub given : (b : A) → (a ≡ b) ↔ First done b rows

-- a test fails exactly when P holds
pub record Tells (b : Bool) (P : Type 0) : Type 0 where
  pub passed : b ≡ true → ¬ P
  pub failed : b ≡ false → P

-- k is a number, and no row has it
abbrev pub new : ℕ → List (Row ℕ) → Bool
new k [] = not (eqb k 0)
new k (r ∷ rows) = not (eqb k r.answer) && new k rows

-- Rows of numbers
pub exact_none : Exact 0 []
exact_none = record { given = λ k. (sym, sym) }

-- a number that no row has is not given
not_given : (k : ℕ) (rows : List (Row ℕ)) → new k rows ≡ true → ¬ Given k rows
not_given k [] e g = true≢false (sym e ∙ simp (eq-eqb k 0 g))
not_given k (r ∷ rows) e g = go (eqb k r.answer) (not_given k rows) e g
  where
    go : (b : Bool) → (new k rows ≡ true → ¬ Given k rows) → (not b && new k rows) ≡ true
        → cond b r.holds ((¬ r.holds) × Given k rows) → ⊥
    go true later e g = false≢true e
    go false later e g = later e g.1

-- one row more: its test comes first, and the rest may take it that the test held
pub exact_row : {b : Bool} {P : Type 0} {k m : ℕ} {rows : List (Row ℕ)} → Tells b P → new k rows ≡ true → (b ≡ true → Exact m rows)
    → Exact (cond b m k) ((k when P) ∷ rows)
exact_row {b} {P} {k} {m} {rows} t e rest = record { given = λ j. go b t rest j (eqb j k) refl }
  where
    go : (b : Bool) → Tells b P → (b ≡ true → Exact m rows) → (j : ℕ) (q : Bool) → eqb j k ≡ q
        → (cond b m k ≡ j) ↔ cond q P ((¬ P) × Given j rows)
    go true t rest j true q = (
      λ n. absurd (not_given k rows e (((rest refl).given k).0 (n ∙ eqb-true j k q))),
      λ p. absurd (t.passed refl p),
    )
    go true t rest j false q = (λ n. (t.passed refl, ((rest refl).given j).0 n), λ g. ((rest refl).given j).1 g.1)
    go false t rest j true q = (λ n. t.failed refl, λ p. sym (eqb-true j k q))
    go false t rest j false q = (λ n. absurd (eqb-false j k q (sym n)), λ g. absurd (g.0 (t.failed refl)))

-- an answer that holds its number: 0 in what a served call gives, the call's own in what a refused one gives
pub number_in : {A : Type 0} (no_of : A → ℕ) (work kept : A) {k : ℕ} → no_of work ≡ 0 → no_of kept ≡ k → no_of (served k work kept) ≡ k
number_in no_of work kept {k} z e = go (eqb k 0) refl
  where
    go : (b : Bool) → eqb k 0 ≡ b → no_of (cond b work kept) ≡ k
    go true q = z ∙ sym (eqb-true k 0 q)
    go false q = e

pub exact_answer : {A : Type 0} (no_of : A → ℕ) (work kept : A) {k : ℕ} {rows : List (Row ℕ)} → no_of work ≡ 0 → no_of kept ≡ k
    → Exact k rows → Exact (no_of (served k work kept)) rows
exact_answer no_of work kept {rows = rows} z e x = subst (λ (j : ℕ). Exact j rows) (sym (number_in no_of work kept z e)) x

-- Rows of any answers
module _ {A : Type 0} (done : A) where
  -- at most one answer is that of the first row that holds
  one : (a b : A) (rows : List (Row A)) → First done a rows → First done b rows → a ≡ b
  one a b [] p q = p ∙ sym q
  one a b (r ∷ rows) (inl p) (inl q) = p.1 ∙ sym q.1
  one a b (r ∷ rows) (inl p) (inr q) = absurd (q.0 p.0)
  one a b (r ∷ rows) (inr p) (inl q) = absurd (p.0 q.0)
  one a b (r ∷ rows) (inr p) (inr q) = one a b rows p.1 q.1

  pub first_exact : (a : A) (rows : List (Row A)) → First done a rows → ExactFirst done a rows
  first_exact a rows f = record { given = λ b. (λ e. subst (λ (x : A). First done x rows) e f, λ g. one a b rows f g) }

  -- one row more: the answer goes by a test
  pub first_test : (value : Bool → A) (rows : List (Row A)) {b : Bool} {P : Type 0} → Tells b P → (b ≡ true → First done (value true) rows)
      → First done (value b) ((value false when P) ∷ rows)
  first_test value rows {b} {P} t rest = go b t rest
    where
      go : (b : Bool) → Tells b P → (b ≡ true → First done (value true) rows) → First done (value b) ((value false when P) ∷ rows)
      go true t rest = inr (t.passed refl, rest refl)
      go false t rest = inl (t.failed refl, refl)

-- the same of an answer that goes by the number of the first test that fails
pub record FirstBy {A : Type 0} (done : A) (from : ℕ → A) (k : ℕ) (rows : List (Row A)) : Type 0 where
  pub first : First done (from k) rows

pub first_row : {A : Type 0} {done : A} {from : ℕ → A} {b : Bool} {P : Type 0} {k m : ℕ} {rows : List (Row A)} → Tells b P
    → (b ≡ true → FirstBy done from m rows)
    → FirstBy done from (cond b m k) ((from k when P) ∷ rows)
first_row {A} {done} {from} {b} {P} {k} {m} {rows} t rest = record
    { first = first_test done (λ (b : Bool). from (cond b m k)) rows t (λ e. (rest e).first) }

-- Tests
pub all_of : {a b : Bool} {P Q : Type 0} → Tells a P → Tells b Q → Tells (a && b) (P or Q)
all_of {a} {b} {P} {Q} s t = go a s
  where
    go : (a : Bool) → Tells a P → Tells (a && b) (P or Q)
    go true s = record { passed = λ e. ⊎_elim (s.passed refl) (t.passed e); failed = λ e. inr (t.failed e) }
    go false s = record { passed = λ e. absurd (false≢true e); failed = λ e. inl (s.failed refl) }

-- a test beside it that always holds
pub and_more : {b : Bool} {P : Type 0} → Tells b P → Tells (b && true) P
and_more {b} {P} t = go b t
  where
    go : (b : Bool) → Tells b P → Tells (b && true) P
    go true t = t
    go false t = t

-- a ≤ b, a < b, a ≡ b
pub at-most : (a b : ℕ) → Tells (leb a b) (b < a)
at-most a b = record { passed = λ e h. let l = leb-true a b e in omega arith; failed = leb-false a b }

pub less : (a b : ℕ) → Tells (ltb a b) (b ≤ a)
less a b = record { passed = λ e h. let l = ltb-true a b e in omega arith; failed = ltb-false a b }

pub same : (a b : ℕ) → Tells (eqb a b) (¬ (a ≡ b))
same a b = record { passed = λ e h. h (eqb-true a b e); failed = eqb-false a b }

-- a test that says that a fact holds
pub fact : {b : Bool} {P : Type 0} → (b ≡ true → P) → (P → b ≡ true) → Tells b (¬ P)
fact to from = record { passed = λ e h. h (to e); failed = λ e p. true≢false (sym (from p) ∙ e) }
