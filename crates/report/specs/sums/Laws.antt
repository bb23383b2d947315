-- Sums and comparisons of whole slices are those that go entry by entry. Assumes nothing.
use Rattle.std.specs.Prelude.{◌≡◌, refl, Bool, true, false, ◌&&◌, List, [], ◌∷◌, ◌++◌, ℕ, zero, suc, ◌+◌, ◌≤◌, eqb, ℤ, pos, nat_abs, length}
use Rattle.std.specs.Prelude.{get_or, take, drop, sum_by}
use Rattle.std.specs.Cmp.Lexicographic.{pointwise}
use Rattle.std.proofs.Common.{sym, ap, ap₂, ◌∙◌, add-one, arith, length-drop, length-take-le}
use Rattle.std.proofs.Math.Seq.{take-suc, take-length}
use Rattle.std.proofs.lemmas.List.{get_or-drop}
use Rattle.std.proofs.lemmas.List.Sums.{sum_by_push}
use Rattle.report.specs.sums.Sums.{agree, absolutes}

-- sums of absolute residuals
pub sum_is : (v : List ℤ) (at k : ℕ) → at + k ≤ length v → sum_by nat_abs (take k (drop at v)) ≡ absolutes v at k
unfolding absolutes
sum_is v at zero h = refl
sum_is v at (suc k) h =
    let rest = drop at v in
    ap (sum_by nat_abs) (take-suc rest k (pos 0) (omega (arith, length-drop at v)))
    ∙ sum_by_push nat_abs (take k rest) (get_or rest k (pos 0))
    ∙ ap₂ (λ (s : ℕ) (r : ℤ). s + nat_abs r) (sum_is v at k (omega arith)) (get_or-drop at v k (pos 0))

-- planes that agree so far
pub agree_none : (a b : List ℕ) → true ≡ agree a b 0
unfolding agree
agree_none a b = refl

pub agree_more : (a b : List ℕ) (i : ℕ) {t : Bool} → t ≡ agree a b i → (t && eqb (get_or a i 0) (get_or b i 0)) ≡ agree a b (i + 1)
unfolding agree
agree_more a b i e = rw (add-one, e)

-- planes compared entry by entry, from the front and from the back
and_true : (t : Bool) → t && true ≡ t
and_true true = refl
and_true false = refl

and_assoc : (s t u : Bool) → s && (t && u) ≡ (s && t) && u
and_assoc true t u = refl
and_assoc false t u = refl

pointwise_push : (a b : List ℕ) (x y : ℕ) → length a ≡ length b → pointwise eqb (a ++ x ∷ []) (b ++ y ∷ []) ≡ (pointwise eqb a b && eqb x y)
pointwise_push [] [] x y h = and_true (eqb x y)
pointwise_push [] (m ∷ b) x y h = absurd (omega arith)
pointwise_push (l ∷ a) [] x y h = absurd (omega arith)
pointwise_push (l ∷ a) (m ∷ b) x y h =
    ap (λ (t : Bool). eqb l m && t) (pointwise_push a b x y (omega arith)) ∙ and_assoc (eqb l m) (pointwise eqb a b) (eqb x y)

pub agree_is : (a b : List ℕ) (k : ℕ) → k ≤ length a → k ≤ length b → pointwise eqb (take k a) (take k b) ≡ agree a b k
unfolding agree
agree_is a b zero h l = refl
agree_is a b (suc k) h l =
    ap₂ (pointwise eqb) (take-suc a k 0 (omega arith)) (take-suc b k 0 (omega arith))
    ∙ pointwise_push (take k a) (take k b) _ _ (length-take-le k a (omega arith) ∙ sym (length-take-le k b (omega arith)))
    ∙ ap (λ (t : Bool). t && eqb (get_or a k 0) (get_or b k 0)) (agree_is a b k (omega arith) (omega arith))

pub agree_all : (a b : List ℕ) → length a ≡ length b → pointwise eqb a b ≡ agree a b (length b)
agree_all a b h =
    sym (ap₂ (λ (x y : List ℕ). pointwise eqb x y) (ap (λ (n : ℕ). take n a) (sym h) ∙ take-length a) (take-length b))
    ∙ agree_is a b (length b) (omega arith) (omega arith)

-- a sum of absolute residuals, one by one
pub sum_none : (v : List ℤ) (at : ℕ) → 0 ≡ absolutes v at 0
unfolding absolutes
sum_none v at = refl

pub sum_more : (v : List ℤ) (at i : ℕ) {s a : ℕ} → s ≡ absolutes v at i → a ≡ nat_abs (get_or v (at + i) (pos 0)) → s + a
    ≡ absolutes v at (i + 1)
unfolding absolutes
sum_more v at i p q = rw (add-one, p, q)
