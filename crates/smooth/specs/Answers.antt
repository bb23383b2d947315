-- What the doors' answers say in document 01's terms: the number, 0 for done, and what is given, false or zeros where the call is refused.
use Rattle.std.specs.Prelude.{ℕ, Bool, false, List, replicate, Result}
use Rattle.domain.specs.declared.refusal.Refusal.{Refusal}
use Rattle.domain.specs.Refusal.{no_of, value_or}
use Rattle.domain.specs.declared.rows.Rows.{Rows}
use Rattle.domain.specs.rows.Neighbours.{zero_rows}
use Rattle.smooth.specs.declared.RowPair.{RowPair}

-- a number, and whether a block's references are smoothed
pub record Rule : Type 0 where
  pub no : ℕ
  pub yes : Bool

-- a number, and the two rows in the [1 2 1] form
pub record FilteredRows : Type 0 where
  pub no : ℕ
  pub above : List ℕ
  pub left : List ℕ

-- a number, and the corner and the two rows
pub record Smoothed : Type 0 where
  pub no : ℕ
  pub rows : Rows

abbrev pub rule_given : Result Bool Refusal → Rule
rule_given r = record { no = no_of r; yes = value_or false r }

abbrev pub zero_pair : RowPair
zero_pair = record { above = replicate 65 0; left = replicate 65 0 }

abbrev pub rows_given : Result RowPair Refusal → FilteredRows
rows_given r = record { no = no_of r; above = (value_or zero_pair r).above; left = (value_or zero_pair r).left }

abbrev pub smoothed_given : Result Rows Refusal → Smoothed
smoothed_given r = record { no = no_of r; rows = value_or zero_rows r }
