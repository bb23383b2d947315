-- The numbers that a call gives back, document 01: 0 for done, and one for each kind of refusal (14 and 15 are document 02's). Answers
-- with a case for each kind are read by these definitions. Assumes nothing.
use Rattle.std.specs.Prelude.{ℕ, Result, Ok, Err}
use Rattle.domain.specs.declared.refusal.Refusal.{Refusal}
use Rattle.domain.specs.declared.refusal.Refusal.TheVariants.{Depth, Size, Mode, Picture, Buffer, Place, Sample, Residual, Order, Gap, Start, File, Excess, Limit}

abbrev pub number : Refusal → ℕ
number Depth = 1
number Size = 2
number Mode = 3
number Picture = 4
number Buffer = 5
number Place = 6
number Sample = 7
number Residual = 8
number Order = 9
number Gap = 10
number Start = 11
number File = 12
number Excess = 14
number Limit = 15

-- the number of an answer
abbrev pub no_of : {A : Type 0} → Result A Refusal → ℕ
no_of (Ok v) = 0
no_of (Err why) = number why

-- its figure, another where it is refused
abbrev pub value_or : {A : Type 0} → A → Result A Refusal → A
value_or other (Ok v) = v
value_or other (Err why) = other
