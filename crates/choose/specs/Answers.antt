-- What an answer says in document 02's terms: the number, 0 for done, and the mode with its sum of absolute differences, both 0 where the
-- call is refused. Rests on the numbers.
use Rattle.std.specs.Prelude.{ℕ, Result}
use Rattle.domain.specs.declared.refusal.Refusal.{Refusal}
use Rattle.domain.specs.Refusal.{no_of, value_or}
use Rattle.choose.specs.declared.Best.{Best}

pub record Chosen : Type 0 where
  pub no : ℕ
  pub mode : ℕ
  pub sum : ℕ

abbrev pub no_best : Best
no_best = record { mode = 0; sum = 0 }

abbrev pub chosen_of : Result Best Refusal → Chosen
chosen_of r = let b = value_or no_best r in record { no = no_of r; mode = b.mode; sum = b.sum }
