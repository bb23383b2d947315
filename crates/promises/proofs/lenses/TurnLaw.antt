-- The law of turns (specs/lenses/TurnLaw has its words): if no answer goes by what the scratch holds, each lens has the answers and the end
-- of its own turns alone. Assumes nothing.
use Rattle.std.specs.Prelude.{◌≡◌, cond, eqb}
use Rattle.std.proofs.Math.Path.{refl, sym, ap, subst}
use Rattle.std.proofs.Common.{ap₂, ◌∙◌, arith, eq-eqb, ne_eqb}
use mathlib.Core.List.{List, [], ◌∷◌, ◌++◌, map}
use Prim.Native.Nat.{ℕ}
use Rattle.std.proofs.Math.Decide.{ℕ_discrete}
use Rattle.std.proofs.Math.ListN.{length}
use Rattle.promises.specs.demand3.Calls.{Made}
use Rattle.promises.specs.lenses.TurnLaw.{same_head, same_tail, Turn, own, asks_in, answers_in, OneTurn, TurnAmong, Alone, Together, Blind, Answered}

-- `gave l x a k r y m`: by its contract a call for lens l, which held x, asked for a with a scratch that held k; it was answered r, and
-- left y and a scratch that held m
module _ {S A R K : Type 0} (gave : ℕ → S → A → K → R → S → K → Type 0) where
  -- in turns of all, each lens's own are turns of that lens alone
  pub own_turns : (x : ℕ → S) (turns : List (Turn A R)) (y : ℕ → S) → Together gave x turns y → (l : ℕ) → Alone gave l (x l) (own l turns) (y l)
  unfolding Made own
  own_turns x [] y m l = ap (λ (f : ℕ → S). f l) m
  own_turns x (t ∷ turns) y m l = go (own_turns m.0 turns y m.2 l) (ℕ_discrete t.lens l)
    where
      go : Alone gave l (m.0 l) (own l turns) (y l) → Dec (t.lens ≡ l) → Alone gave l (x l) (own l (t ∷ turns)) (y l)
      go more (yes e) = rw (eq-eqb t.lens l e) (m.0 l, subst (λ (n : ℕ). OneTurn gave n (x n) t (m.0 n)) e m.1.0, more)
      go more (no d) = rw (ne_eqb t.lens l d)
          (subst (λ (s : S). Alone gave l s (own l turns) (y l)) (m.1.1 l (λ e. d (sym e))) more)

  -- what a lens holds becomes y
  abbrev become : (ℕ → S) → ℕ → S → ℕ → S
  become x l y o = cond (eqb o l) y (x o)

  pub taken_so : Answered gave → (x : ℕ → S) (wanted : List (ℕ × A)) → (turns : List (Turn A R)) × (y : ℕ → S) × Together gave x turns y
      × (map (λ (t : Turn A R). (t.lens, t.ask)) turns ≡ wanted)
  unfolding Made
  taken_so answered x [] = ([], x, refl, refl)
  taken_so answered x ((l, a) ∷ wanted) =
      let g = answered l (x l) a in
      let t : Turn A R = record { lens = l; ask = a; answer = g.0 } in
      let z = become x l g.1 in
      let here : g.1 ≡ z l = rw (eq-eqb l l refl) refl in
      let among : TurnAmong gave x t z = (
        (g.2, g.3, subst (λ (y : S). gave l (x l) a g.2 g.0 y g.3) here g.4),
        λ o d. rw (ne_eqb o l d) refl,
      ) in
      let more = taken_so answered z wanted in
      (t ∷ more.0, more.1, (z, among, more.2), ap (λ (w : List (ℕ × A)). (l, a) ∷ w) more.3)

  -- a list of turns in two parts
  pub in_parts : (x : ℕ → S) (first then : List (Turn A R)) (z : ℕ → S) → Together gave x (first ++ then) z
      → (y : ℕ → S) × Together gave x first y × Together gave y then z
  unfolding Made
  in_parts x [] then z m = (x, refl, m)
  in_parts x (t ∷ first) then z m = let p = in_parts m.0 first then z m.2 in (p.0, (m.0, m.1, p.1), p.2)

  -- turns alone that ask the same are answered the same and end the same
  module _ (blind : Blind gave) where
    once : (l : ℕ) (x : S) (turns others : List (Turn A R)) (y z : S) → Alone gave l x turns y → Alone gave l x others z
        → asks_in turns ≡ asks_in others → (answers_in turns ≡ answers_in others) × (y ≡ z)
    unfolding Made
    once l x [] [] y z m n e = (refl, m ∙ sym n)
    once l x [] (u ∷ others) y z m n e = absurd (let d = ap length e in omega arith)
    once l x (t ∷ turns) [] y z m n e = absurd (let d = ap length e in omega arith)
    once l x (t ∷ turns) (u ∷ others) y z m n e =
        let asked : t.ask ≡ u.ask = same_head e in
        let same = blind l x u.ask _ _ t.answer u.answer m.0 n.0 _ _
        (subst (λ (a : A). gave l x a m.1.0 t.answer m.0 m.1.1) asked m.1.2) n.1.2 in
        let more = once l n.0 turns others y z (subst (λ (s : S). Alone gave l s turns y) same.1 m.2) n.2 (same_tail e) in
        (ap₂ (λ (r : R) (l : List R). r ∷ l) same.0 more.0, more.1)

    -- so, among all, as alone
    pub as_alone : (x : ℕ → S) (turns : List (Turn A R)) (y : ℕ → S) → Together gave x turns y
        → (l : ℕ) (alone : List (Turn A R)) (z : S) → Alone gave l (x l) alone z → asks_in alone ≡ asks_in (own l turns)
        → (answers_in alone ≡ answers_in (own l turns)) × (z ≡ y l)
    as_alone x turns y m l alone z n e = once l (x l) alone (own l turns) z (y l) n (own_turns x turns y m l) e
