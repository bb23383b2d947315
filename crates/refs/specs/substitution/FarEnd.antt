-- A list filled from an entry down, and that this is the fill of its first entries. Assumes nothing.
use Rattle.std.specs.Prelude.{◌≡◌, get_or}
use Rattle.std.proofs.Math.Path.{refl, ap}
use Rattle.std.proofs.Common.{◌∙◌, add-one}
use mathlib.Core.List.{List}
use Prim.Native.Nat.{ℕ, zero, suc, ◌+◌, ◌-◌, ◌≤◌}
use native.Mathlib.Omega.{arith}
use Rattle.std.proofs.Math.ListN.{set}
use Rattle.std.proofs.Math.Seq.{get_or-set_other, set_comm}
use Rattle.laws.specs.Fill.{fill}

-- d with its k entries from e down f e, f (e - 1), .., as far as it has them; the others are kept
unfoldable pub fill_down : {A : Type 0} → (ℕ → A) → ℕ → ℕ → List A → List A
fill_down f e zero d = d
fill_down f e (suc k) d = set (fill_down f e k d) (e - k) (f (e - k))

module _ {A : Type 0} (f : ℕ → A) (e : ℕ) (d : List A) where
  -- the loop begins, a turn, and what it has not reached
  pub down_none : d ≡ fill_down f e 0 d
  unfolding fill_down
  down_none = refl

  pub down_more : (p : ℕ) {w : List A} {v : A} → w ≡ fill_down f e p d → v ≡ f (e - p) → set w (e - p) v ≡ fill_down f e (p + 1) d
  unfolding fill_down
  down_more p a b = rw (add-one, a, b)

  pub down_before : (k i : ℕ) (z : A) → k ≤ e - i → get_or (fill_down f e k d) i z ≡ get_or d i z
  unfolding fill_down
  down_before zero i z h = refl
  down_before (suc k) i z h =
      get_or-set_other (fill_down f e k d) (e - k) i (f (e - k)) z (λ q. let t : i ≡ e - k = q in omega arith)
      ∙ down_before k i z (omega arith)

  -- all from e down to 0: the first e + 1
  below : (k i : ℕ) (w : List A) (v : A) → k ≤ i → fill f k (set w i v) ≡ set (fill f k w) i v
  unfolding fill
  below zero i w v h = refl
  below (suc k) i w v h =
      ap (λ (t : List A). set t k (f k)) (below k i w v (omega arith))
      ∙ set_comm (fill f k w) i k v (f k) (λ q. let t : i ≡ k = q in omega arith)

  rest : (k : ℕ) → k ≤ e + 1 → fill f (e + 1 - k) (fill_down f e k d) ≡ fill f (e + 1) d
  unfolding fill fill_down
  rest zero h = let s : e + 1 - 0 ≡ e + 1 = omega arith in ap (λ (m : ℕ). fill f m d) s
  rest (suc k) h =
      let s : e + 1 - suc k ≡ e - k = omega arith in
      let u : suc (e - k) ≡ e + 1 - k = omega arith in
      ap (λ (m : ℕ). fill f m (fill_down f e (suc k) d)) s
      ∙ below (e - k) (e - k) (fill_down f e k d) (f (e - k)) (omega arith)
      ∙ ap (λ (m : ℕ). fill f m (fill_down f e k d)) u
      ∙ rest k (omega arith)

  pub down_all : {p : ℕ} {w : List A} → p ≤ e + 1 → e + 1 ≤ p → w ≡ fill_down f e p d → w ≡ fill f (e + 1) d
  unfolding fill
  down_all {p} {w} a b q =
      let t : p ≡ e + 1 = omega arith in
      let u : 0 ≡ e + 1 - (e + 1) = omega arith in
      q ∙ ap (λ (m : ℕ). fill_down f e m d) t ∙ ap (λ (m : ℕ). fill f m (fill_down f e (e + 1) d)) u ∙ rest (e + 1) (omega arith)
