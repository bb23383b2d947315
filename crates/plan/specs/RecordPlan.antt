-- Document 01: a plan as bytes, in records of six. Assumes nothing.
use Rattle.std.specs.Prelude.{ℕ, ◌/◌, ◌%◌, List, eqb, length}
use Rattle.plan.specs.records.Records.{record_at}
use Rattle.plan.specs.tiling.Plan.{Plan}

-- the plan that bytes spell; bytes left over spell none
abbrev pub records_of : List ℕ → Plan
records_of b = record { whole = eqb (length b % 6) 0; count = length b / 6; block = record_at b }
