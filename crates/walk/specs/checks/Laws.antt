-- What joins the functions that check a call on a still. Assumes nothing.
use Rattle.std.specs.Prelude.{◌≡◌, Bool, true, false, cond, ℕ, ◌≤◌, leb, eqb, ℤ, nat_abs}
use Rattle.std.proofs.Math.Path.{refl}
use Rattle.std.proofs.Common.{sym, ap, ◌∙◌, le_trans, arith, leb-true, le-leb, eqb-true}
use mathlib.Core.List.{List, [], ◌∷◌}
use Rattle.std.proofs.lemmas.Bool.{eqb-false}
use Rattle.laws.specs.Choose.{Check, ◌unless◌, first_fail, passed, both_true, both_same}
use Rattle.laws.specs.Every.{every, pass_none, pass_more, pass_done}
use Rattle.laws.specs.Signed.{held}
use Rattle.domain.specs.Domain.{depth_ok}
use Rattle.domain.specs.Facts.{Depth, depth_of}
use Rattle.fmt.specs.depth.Depth.{largest_of}
use Rattle.fmt.specs.depth.Laws.{largest_of_is}
use Rattle.order.specs.Order.{picture_ok}
use Rattle.plan.specs.Answers.{Verdict}
use Rattle.plan.specs.tiling.Tiling.{picture_of}
use Rattle.samples.specs.deltas.Deltas.{residual_ok, residual_within}
use Rattle.walk.specs.declared.checks.Still.{Still}
use Rattle.walk.specs.checks.Checks.{largest_in, opening_no, call_no, residual_checks, settle}

-- the checks before the plan's stop at 5, or go on to the later ones
stops : (a b c : Bool) (later : List Check) → (first_fail ((1 unless a) ∷ (4 unless b) ∷ (5 unless c) ∷ []) ≡ 0 → ⊥)
    → first_fail ((1 unless a) ∷ (4 unless b) ∷ (5 unless c) ∷ []) ≡ first_fail ((1 unless a) ∷ (4 unless b) ∷ (5 unless c) ∷ later)
stops true true true later h = absurd (h refl)
stops true true false later h = refl
stops true false c later h = refl
stops false b c later h = refl

goes : (a b c : Bool) (later : List Check) → first_fail ((1 unless a) ∷ (4 unless b) ∷ (5 unless c) ∷ []) ≡ 0
    → first_fail later ≡ first_fail ((1 unless a) ∷ (4 unless b) ∷ (5 unless c) ∷ later)
goes true true true later h = refl
goes true true false later h = absurd (omega arith)
goes true false c later h = absurd (omega arith)
goes false b c later h = absurd (omega arith)

module _ (s : Still) (fit : Bool) (later : List Check) where
  pub opening_stops : (opening_no s fit ≡ 0 → ⊥) → opening_no s fit ≡ call_no s fit later
  opening_stops h = stops (depth_ok s.bits) (picture_ok (picture_of s.frame)) fit later h

  opening_goes : {k : ℕ} → opening_no s fit ≡ 0 → k ≡ first_fail later → k ≡ call_no s fit later
  opening_goes h q = q ∙ goes (depth_ok s.bits) (picture_ok (picture_of s.frame)) fit later h

  -- number 0 of them all: the picture is good, and all that is lent is long enough
  pub good_call : call_no s fit later ≡ 0 → (picture_ok (picture_of s.frame) ≡ true) × (fit ≡ true)
  good_call e =
      let p = passed (picture_ok (picture_of s.frame)) _ 4 (omega arith) (passed (depth_ok s.bits) _ 1 (omega arith) e).1 in
      (p.0, (passed fit _ 5 (omega arith) p.1).0)

-- number 0 of 1, 4, 5: the depth is one
opening_depth : (s : Still) (fit : Bool) → opening_no s fit ≡ 0 → Depth s.bits
opening_depth s fit e = depth_of s.bits (passed (depth_ok s.bits) _ 1 (omega arith) e).0

-- the later checks, made with the depth's largest sample as it is found
pub opening_ends : (s : Still) (fit : Bool) (later : ℕ → List Check) {k largest : ℕ} → opening_no s fit ≡ 0 → largest ≡ largest_of s.bits
    → k ≡ first_fail (later largest) → k ≡ call_no s fit (later (largest_in s))
opening_ends s fit later z e q =
    opening_goes s fit (later (largest_in s)) z
    (q ∙ ap (λ (m : ℕ). first_fail (later m)) (e ∙ largest_of_is s.bits (opening_depth s fit z)))

-- residuals within the tighter limit are in range
module _ (largest : ℕ) (few : largest ≤ 65535) where
  one_wider : (z : ℤ) → residual_within largest z ≡ true → residual_ok z ≡ true
  one_wider z e = le-leb (nat_abs z) 65535 (le_trans (leb-true (nat_abs z) largest e) few)

  wider : (v : List ℤ) → every (residual_within largest) v ≡ true → every residual_ok v ≡ true
  unfolding every
  wider [] e = refl
  wider (z ∷ v) e =
      let b = both_true (residual_within largest z) (every (residual_within largest) v) e in
      both_same (one_wider z b.0) (wider v b.1)

  -- so their number is told by the tighter limit first
  module _ (v : List ℤ) where
    pub all_within : every (residual_within largest) v ≡ true → 0 ≡ first_fail (residual_checks largest v)
    all_within e = sym (rw (wider v e, e))

    pub some_beyond : every (residual_within largest) v ≡ false → every residual_ok v ≡ true → 14 ≡ first_fail (residual_checks largest v)
    some_beyond n e = sym (rw (e, n))

    pub some_outside : every residual_ok v ≡ false → 8 ≡ first_fail (residual_checks largest v)
    some_outside n = sym (rw n)

-- number 0 says that the plan is good, and the record not above its count
pub settle_zero : (found : Verdict) (count : ℕ) (done : ℕ) (early : ℕ) → (settle found count done early).no ≡ 0 → (found.no ≡ 0)
    × (done ≤ count)
unfolding settle
settle_zero found count done early = go (eqb early 0) (eqb found.no 0) (leb (done) count) refl refl refl
  where
    go : (a b c : Bool) → eqb early 0 ≡ a → eqb found.no 0 ≡ b → leb (done) count ≡ c
        → (cond a (cond b (record { no = cond c 0 11; block = 0 }) found) (record { no = early; block = 0 })).no ≡ 0 → (found.no ≡ 0)
        × (done ≤ count)
    go true true true x y z e = (eqb-true _ 0 y, leb-true (done) count z)
    go true true false x y z e = absurd (omega arith)
    go true false c x y z e = absurd (eqb-false _ 0 y e)
    go false b c x y z e = absurd (eqb-false early 0 x e)

-- what a loop that tests residuals rests on: its start, its turns, its end, and that a residual is read as it was stored
pub ruleset passing = (pass_none, pass_more, pass_done, held)
