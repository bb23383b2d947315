-- What a substitution that is not refused rests on, and the two ways of a door's answer. Assumes nothing.
use Rattle.std.specs.Prelude.{◌≡◌, true, ℕ, ◌≤◌}
use Rattle.std.proofs.Common.{sym, ap₂, ◌∙◌, arith}
use Rattle.laws.specs.Choose.{passed, served, worked, unserved}
use Rattle.domain.specs.Domain.{depth_ok, size_ok}
use Rattle.domain.specs.Facts.{size_of, size_small}
use Rattle.refs.specs.substitution.Door.{substitute_no}

-- substitution that is not refused
pub substitute_fine : (bits n : ℕ) → substitute_no bits n ≡ 0 → (depth_ok bits ≡ true) × (n ≤ 32)
unfolding substitute_no
substitute_fine bits n e =
    let a = passed (depth_ok bits) _ 1 (omega arith) e in
    let b = passed (size_ok n) 0 2 (omega arith) a.1 in
    (a.0, (size_small n (size_of n b.0)).1)

-- a door's answer, refused and served, over any answer made of a number and what was worked out
module _ {A B : Type 0} (answer : ℕ → A → B) (n : ℕ) (work kept : A) where
  pub refused : {k : ℕ} {given : A} → k ≡ n → (k ≡ 0 → ⊥) → given ≡ kept → answer k given ≡ answer n (served n work kept)
  refused e h z = ap₂ answer e (z ∙ unserved n work kept (λ q. h (e ∙ q)))

  pub done : {given : A} → n ≡ 0 → given ≡ work → answer 0 given ≡ answer n (served n work kept)
  done e d = ap₂ answer (sym e) (d ∙ worked n work kept e)
