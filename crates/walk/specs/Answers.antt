-- What the answers of a call of walk or replay say in document 01's terms: the number, 0 for done, the block that it is about, how many
-- blocks are done, and the next record; refused, the record as given. Assumes nothing.
use Rattle.std.specs.Prelude.{ℕ, Result, Ok, Err}
use Rattle.domain.specs.declared.refusal.Refusal.{Refusal}
use Rattle.domain.specs.Refusal.{number}
use Rattle.plan.specs.declared.tiling.Fault.{Fault}
use Rattle.walk.specs.declared.Progress.{Progress}
use Rattle.walk.specs.declared.Advance.{Advance}
use Rattle.walk.specs.declared.Rejected.{Rejected}

-- a call's number and the block that it is about, how many blocks it does, and the block that it goes up to; refused, it does none
pub record Step : Type 0 where
  pub no : ℕ
  pub block : ℕ
  pub did : ℕ
  pub upto : ℕ

-- what a call gives: its number and the block that it is about, how many blocks it did, and the next record
pub record Stepped : Type 0 where
  pub no : ℕ
  pub block : ℕ
  pub did : ℕ
  pub next : Progress

-- what a call comes to, before the first write: its answer, and the block that it goes up to, 0 when refused
pub record Call : Type 0 where
  pub answer : Stepped
  pub upto : ℕ

-- how far a call goes whose plan is checked
abbrev pub advance_of : Result Advance Refusal → Step
advance_of (Ok a) = record { no = 0; block = 0; did = a.did; upto = a.next.done }
advance_of (Err why) = record { no = number why; block = 0; did = 0; upto = 0 }

-- how far a call goes
abbrev pub step_in : Result Advance Fault → Step
step_in (Ok a) = record { no = 0; block = 0; did = a.did; upto = a.next.done }
step_in (Err f) = record { no = number f.why; block = f.block; did = 0; upto = 0 }

-- what a call gives
abbrev pub stepped_of : Result Advance Rejected → Stepped
stepped_of (Ok a) = record { no = 0; block = 0; did = a.did; next = a.next }
stepped_of (Err r) = record { no = number r.fault.why; block = r.fault.block; did = 0; next = r.progress }
