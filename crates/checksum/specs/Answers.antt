-- What an answer says in document 01's terms: a call's number, 0 for done, and the sum, 0 where it is refused. Rests on the numbers.
use Rattle.std.specs.Prelude.{◌≡◌, ℕ, Result}
use Rattle.std.proofs.Common.{ap}
use Rattle.domain.specs.declared.refusal.Refusal.{Refusal}
use Rattle.domain.specs.Refusal.{no_of, value_or}
use Rattle.domain.specs.Refused.{same_answer}

pub record Summed : Type 0 where
  pub no : ℕ
  pub sum : ℕ

abbrev pub answered : Result ℕ Refusal → Summed
answered r = record { no = no_of r; sum = value_or 0 r }

-- an answer is known by what it says
pub answered_same : (s t : Result ℕ Refusal) → answered s ≡ answered t → s ≡ t
answered_same s t e = same_answer 0 s t (ap (λ (v : Summed). v.no) e) (ap (λ (v : Summed). v.sum) e)
