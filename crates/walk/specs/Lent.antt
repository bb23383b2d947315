-- What a call of walk or replay is lent, by name. Rests on the predictors' names of a lent slice.
use Rattle.std.specs.Prelude.{ℕ, List, ℤ, length}
use Rattle.std.specs.Borrow.{Bor, MutBor}
use denote.Triple.Both.{Both}
use Rattle.predict.specs.Lent.{Slice, MutSlice, mut_len}
use Rattle.plan.specs.tiling.Plan.{Plan, plan_of}
use Rattle.walk.specs.checks.Checks.{Tables}
use Rattle.walk.specs.block.Walked.{World}

-- how long the tables of a scratch are
abbrev pub tables : List ℕ → List ℕ → List ℕ → Tables
tables refs indices fractions = record { refs = length refs; indices = length indices; fractions = length fractions }

-- those of three lent slices, and those of the scratch struct
abbrev pub lent_tables : MutSlice → MutSlice → MutSlice → Tables
lent_tables refs indices fractions = record { refs = mut_len refs; indices = mut_len indices; fractions = mut_len fractions }

abbrev pub scratch_tables : Tables
scratch_tables = record { refs = 193; indices = 32; fractions = 32 }

-- the plan in four lent slices
abbrev pub lent_plan : Slice → Slice → Slice → Slice → Plan
lent_plan rows cols sides modes = plan_of rows.entry.now cols.entry.now sides.entry.now modes.entry.now

-- residuals that a call is lent
abbrev pub Residuals : Type 0
Residuals = Both (Bor (List ℤ)) (Bor (List ℤ))

-- residuals that a call may write
abbrev pub MutResiduals : Type 0
MutResiduals = Both (MutBor (List ℤ)) (MutBor (List ℤ))

-- what a walk writes, when its call began and when it ended
abbrev pub world : List ℕ → List ℤ → World
world work residuals = record { work = work; residuals = residuals }

abbrev pub world_before : MutSlice → MutResiduals → World
world_before work residuals = world work.entry.now residuals.entry.now

abbrev pub world_after : MutSlice → MutResiduals → World
world_after work residuals = world work.exit.now residuals.exit.now
