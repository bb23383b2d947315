-- A chain of calls is one call with the sum of the grants, refused or not, for any call that does units; and where one is served, all are.
-- Rests on the laws of units.
use Rattle.std.specs.Prelude.{◌≡◌, ℕ, ◌+◌, ◌-◌, min}
use Rattle.std.proofs.Math.Path.{refl, ap, subst}
use Rattle.std.proofs.Common.{sym, ap₂, ◌∙◌, arith}
use mathlib.Core.List.{List, [], ◌∷◌, map}
use Rattle.std.proofs.Math.Decide.{ℕ_discrete}
use Rattle.laws.specs.Choose.{served, worked, unserved}
use Rattle.laws.specs.Chain.{sum, units, State, step, chain, chain_all}
use Rattle.promises.specs.demand3.Calls.{Held, fresh, calls, Made, AllServed, Each}

-- the sum of the grants, grant by grant; the laws of units give it
pub sum_none : sum [] ≡ 0
unfolding chain
sum_none =
    let total = sum [] in
    let unit : ℕ → ℕ → ℕ = λ i w. w in
    let e = ap (λ (s : State unit total). s.done) (chain_all unit total (record { done = 0; world = 0 }) []) in
    omega arith

pub sum_more : (g : ℕ) (gs : List ℕ) → sum (g ∷ gs) ≡ g + sum gs
unfolding chain
sum_more g gs =
    let total = g + sum gs + sum (g ∷ gs) in
    let unit : ℕ → ℕ → ℕ = λ i w. w in
    let start : State unit total = record { done = 0; world = 0 } in
    let a = ap (λ (s : State unit total). s.done) (chain_all unit total start (g ∷ gs)) in
    let b = ap (λ (s : State unit total). s.done) (chain_all unit total (step unit total start g) gs) in
    omega arith

-- what a call that is served leaves: the lesser of the grant and what remains is done
abbrev pub next : {W : Type 0} → (ℕ → W → W) → ℕ → Held W → ℕ → Held W
next unit count x grant =
    let did = min grant (count - x.progress.done) in
    record { progress = record { done = x.progress.done + did }; world = units unit x.progress.done did x.world }

-- what calls from a fresh record leave after k units
abbrev pub after : {W : Type 0} → (ℕ → W → W) → ℕ → W → Held W
after unit k w = record { progress = record { done = k }; world = units unit 0 k w }

-- A call that goes by a number: 0 where what is held is ready and what the call is given is fit, and of nothing else that is held. What
-- such a call leaves is ready again.
pub record Steps {W A : Type 0} (grant : A → ℕ) (Fit : A → Type 0) (Ready : Held W → Type 0) (number : Held W → A → ℕ) (unit : ℕ → W → W)
    (count : ℕ)
    (call : Held W → A → Held W)
    : Type 0
  where
    pub call_is : (x : Held W) (a : A) → call x a ≡ served (number x a) (next unit count x (grant a)) x
    pub fine : (x : Held W) (a : A) → Ready x → Fit a → number x a ≡ 0
    pub told : (x : Held W) (a : A) → number x a ≡ 0 → Ready x
    pub again : (x : Held W) (g : ℕ) → Ready x → Ready (next unit count x g)

module _ {W A : Type 0} {grant : A → ℕ} {Fit : A → Type 0} {Ready : Held W → Type 0} {number : Held W → A → ℕ} {unit : ℕ → W → W}
    {count : ℕ}
    {call : Held W → A → Held W} (f : Steps grant Fit Ready number unit count call)
  where
    abbrev from : Held W → State unit count
    from x = record { done = x.progress.done; world = x.world }

    abbrev to : State unit count → Held W
    to s = record { progress = record { done = s.done }; world = s.world }

    pub does : (x : Held W) (a : A) → number x a ≡ 0 → call x a ≡ next unit count x (grant a)
    does x a e = f.call_is x a ∙ sym (worked (number x a) (next unit count x (grant a)) x e)

    pub refuses : (x : Held W) (a : A) → (number x a ≡ 0 → ⊥) → call x a ≡ x
    refuses x a e = f.call_is x a ∙ sym (unserved (number x a) (next unit count x (grant a)) x e)

    chained : (x : Held W) (l : List A) → Ready x → Each Fit l → calls call x l ≡ to (chain unit count (from x) (map grant l))
    unfolding calls chain Each
    chained x [] r h = refl
    chained x (a ∷ l) r h =
        ap (λ (y : Held W). calls call y l) (does x a (f.fine x a r h.0))
        ∙ chained (next unit count x (grant a)) l (f.again x (grant a) r) h.1

    stays : (x : Held W) (l : List A) → (Ready x → ⊥) → calls call x l ≡ x
    unfolding calls
    stays x [] n = refl
    stays x (a ∷ l) n = ap (λ (y : Held W). calls call y l) (refuses x a (λ e. n (f.told x a e))) ∙ stays x l n

    -- calls that are served, each of them
    pub all_done : (x : Held W) (l : List A) → Ready x → Each Fit l → calls call x l ≡ next unit count x (sum (map grant l))
    all_done x l r h = chained x l r h ∙ ap to (chain_all unit count (from x) (map grant l))

    pub all_served : (x : Held W) (l : List A) → Ready x → Each Fit l → AllServed number call x l
    unfolding AllServed Each
    all_served x [] r h = tt
    all_served x (a ∷ l) r h =
        let e = f.fine x a r h.0 in (
          e,
          subst (λ (y : Held W). AllServed number call y l) (sym (does x a e))
              (all_served (next unit count x (grant a)) l (f.again x (grant a) r) h.1),
        )

    -- any split is one call
    pub split : (x : Held W) (l : List A) (a : A) → Each Fit l → Fit a → grant a ≡ sum (map grant l) → calls call x l ≡ call x a
    split x l a h k e = go (ℕ_discrete (number x a) 0)
      where
        go : Dec (number x a ≡ 0) → calls call x l ≡ call x a
        go (yes z) = all_done x l (f.told x a z) h ∙ ap (next unit count x) (sym e) ∙ sym (does x a z)
        go (no n) = stays x l (λ r. n (f.fine x a r k)) ∙ sym (refuses x a n)

    -- from a fresh record
    pub from_fresh : (w : W) (l : List A) → Ready (fresh w) → Each Fit l
        → calls call (fresh w) l ≡ after unit (min (sum (map grant l)) count) w
    from_fresh w l r h =
        let total = sum (map grant l) in
        let did : min total (count - 0) ≡ min total count = omega arith in
        let done : 0 + min total (count - 0) ≡ min total count = omega arith in
        all_done (fresh w) l r h ∙ ap₂ (λ (a b : ℕ). record { progress = record { done = a }; world = units unit 0 b w }) done did

-- calls made one after the other, of which each gave what the definition says
pub made_calls : {S A : Type 0} {call : S → A → S} {gave : S → A → S → Type 0} → ((x : S) (a : A) (y : S) → gave x a y → y ≡ call x a)
    → (x : S) (l : List A) (y : S) → Made gave x l y → y ≡ calls call x l
unfolding calls Made
made_calls h x [] y m = m
made_calls {call = call} h x (a ∷ l) y m = made_calls h m.0 l y m.2 ∙ ap (λ z. calls call z l) (h x a m.0 m.1)
