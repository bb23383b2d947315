-- What the check's answers say in document 01's terms: the number, 0 for done, and the list number of the block that it is about; on the
-- way, where the check stands.
use Rattle.std.specs.Prelude.{ℕ, Result, Ok, Err}
use Rattle.domain.specs.Refusal.{number}
use Rattle.plan.specs.declared.tiling.Fault.{Fault}

-- a plan's number, and the list number of the block that it is about
pub record Verdict : Type 0 where
  pub no : ℕ
  pub block : ℕ

abbrev pub verdict_of : {A : Type 0} → Result A Fault → Verdict
verdict_of (Ok v) = record { no = 0; block = 0 }
verdict_of (Err f) = record { no = number f.why; block = f.block }

-- where the check of a plan stands: the first refusal, its block, and the samples covered before it
pub record Checking : Type 0 where
  pub no : ℕ
  pub block : ℕ
  pub covered : ℕ

-- after a block before which so many samples were covered
abbrev pub checking_of : ℕ → Result ℕ Fault → Checking
checking_of covered (Ok more) = record { no = 0; block = 0; covered = more }
checking_of covered (Err f) = record { no = number f.why; block = f.block; covered = covered }
