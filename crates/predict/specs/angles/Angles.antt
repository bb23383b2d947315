-- H.265 8.4.4.2.6, tables 8-4 and 8-5, by how far a mode is from 18: the angle plus 32, and the inverse angle turned positive.
-- Assumes nothing.
use Rattle.std.specs.Prelude.{◌≡◌, List, [], ◌∷◌, ℕ, ◌+◌, ◌≤◌}
use Rattle.std.proofs.Common.{sym, ⊎_elim, eq-or-lt_of_le, arith}

abbrev pub turns : List ℕ
turns = 0 ∷ 6 ∷ 11 ∷ 15 ∷ 19 ∷ 23 ∷ 27 ∷ 30 ∷ 32 ∷ 34 ∷ 37 ∷ 41 ∷ 45 ∷ 49 ∷ 53 ∷ 58 ∷ 64 ∷ []

abbrev pub bends : List ℕ
bends = 256 ∷ 315 ∷ 390 ∷ 482 ∷ 630 ∷ 910 ∷ 1638 ∷ 4096 ∷ []

-- past the arms of a match, one after the other
pub next : (d k : ℕ) → k ≤ d → (d ≡ k → ⊥) → k + 1 ≤ d
next d k h f = ⊎_elim (λ e. absurd (f (sym e))) (λ l. omega arith) (eq-or-lt_of_le h)
