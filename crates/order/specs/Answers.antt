-- What the doors' answers say in document 01's terms: the number, 0 for done, and the figure, 0 or false where the call is refused.
use Rattle.std.specs.Prelude.{ℕ, Bool, false, Result}
use Rattle.domain.specs.declared.refusal.Refusal.{Refusal}
use Rattle.domain.specs.Refusal.{no_of, value_or}
use Rattle.order.specs.declared.Reach.{Reach}

-- a number, and a cell's number in decode order
pub record Numbered : Type 0 where
  pub no : ℕ
  pub value : ℕ

-- a number, and a flag
pub record Flagged : Type 0 where
  pub no : ℕ
  pub yes : Bool

-- a number, and how far the neighbours of a block reach
pub record Reached : Type 0 where
  pub no : ℕ
  pub corner : Bool
  pub above : ℕ
  pub left : ℕ

abbrev pub numbered : Result ℕ Refusal → Numbered
numbered r = record { no = no_of r; value = value_or 0 r }

abbrev pub flagged : Result Bool Refusal → Flagged
flagged r = record { no = no_of r; yes = value_or false r }

-- the reach of a block that is not refused
abbrev pub there : Reach → Reached
there r = record { no = 0; corner = r.corner; above = r.above; left = r.left }

-- the reach that an answer in those terms has
abbrev pub held : Reached → Reach
held r = record { corner = r.corner; above = r.above; left = r.left }

abbrev nowhere : Reach
nowhere = record { corner = false; above = 0; left = 0 }

abbrev pub reached : Result Reach Refusal → Reached
reached s = let r = value_or nowhere s in record { no = no_of s; corner = r.corner; above = r.above; left = r.left }
