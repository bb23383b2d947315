-- The turns of a loop over blocks that passes over those before `from`. Assumes nothing.
use Rattle.std.specs.Prelude.{◌≡◌, refl, cond, ℕ, suc, ◌+◌, ◌-◌, ◌≤◌, ◌<◌, leb}
use Rattle.std.proofs.Common.{sym, ◌∙◌, add-one, le-leb}
use Rattle.std.proofs.Math.Path.{ap}
use native.Mathlib.Omega.{arith}
use Rattle.std.proofs.Math.Decide.{dec_lt}
use Rattle.std.proofs.lemmas.Bool.{lt-leb}
use Rattle.laws.specs.Chain.{units, units_add}
use Rattle.laws.specs.Choose.{if_yes, if_no}
use Rattle.walk.specs.calls.Places.{place_none, place_more}

module _ {W : Type 0} (unit : ℕ → W → W) (from : ℕ) where
  last_of : (k : ℕ) (w : W) → units unit from (suc k) w ≡ unit (from + k) (units unit from k w)
  unfolding units
  last_of k w = ap (λ (m : ℕ). units unit from m w) (sym (add-one k)) ∙ units_add unit from k 1 w

  -- one block more
  units_more : (k : ℕ) (w u : W) → from ≤ k → u ≡ units unit from (k - from) w → unit k u ≡ units unit from (k + 1 - from) w
  units_more k w u h e =
      let a : from + (k - from) ≡ k = omega arith in
      let b : suc (k - from) ≡ k + 1 - from = omega arith in
      ap (unit k) e ∙ ap (λ (m : ℕ). unit m (units unit from (k - from) w)) (sym a) ∙ sym (last_of (k - from) w)
      ∙ ap (λ (m : ℕ). units unit from m w) b

  pub turn_none : (w : W) → w ≡ units unit from (0 - from) w
  unfolding units
  turn_none w = let e : 0 ≡ 0 - from = omega arith in ap (λ (m : ℕ). units unit from m w) e

  pub turn_more : (k : ℕ) (d e f : W) → e ≡ units unit from (k - from) d → f ≡ cond (leb from k) (unit k e) e → f
      ≡ units unit from (k + 1 - from) d
  turn_more k d e f u q = go (dec_lt k from)
    where
      go : Dec (k < from) → f ≡ units unit from (k + 1 - from) d
      go (yes l) =
          let m : k - from ≡ k + 1 - from = omega arith in
          q ∙ sym (if_no (leb from k) (unit k e) e e (lt-leb from k l) refl) ∙ u ∙ ap (λ (n : ℕ). units unit from n d) m
      go (no l) =
          q ∙ sym (if_yes (leb from k) (unit k e) e (unit k e) (le-leb from k (omega (arith, l))) refl)
          ∙ units_more k d e (omega (arith, l)) u

  pub turn_done : (k upto : ℕ) (d e : W) → k ≤ upto → upto ≤ k → e ≡ units unit from (k - from) d → e ≡ units unit from (upto - from) d
  turn_done k upto d e l m q = let n : k - from ≡ upto - from = omega arith in q ∙ ap (λ (x : ℕ). units unit from x d) n

-- what a loop over blocks rests on: its start and its turns, with the place of the next block
pub ruleset turns = (place_none, place_more, turn_none, turn_more)
