-- What the answers of a report's calls say in document 02's terms: the number, 0 for done, the block that it is about, and the next record;
-- refused, the record as given. Assumes nothing.
use Rattle.std.specs.Prelude.{ℕ, Result, Ok, Err}
use Rattle.domain.specs.Refusal.{number}
use Rattle.errors.specs.declared.Report.{Report}
use Rattle.errors.specs.declared.Rejected.{Rejected}

-- a call's number, the block that it is about, and the next record
pub record Counted : Type 0 where
  pub no : ℕ
  pub block : ℕ
  pub next : Report

-- a call's number and the sum of two records, the first where it is refused
pub record Joined : Type 0 where
  pub no : ℕ
  pub next : Report

abbrev pub counted_of : Result Report Rejected → Counted
counted_of (Ok r) = record { no = 0; block = 0; next = r }
counted_of (Err e) = record { no = number e.fault.why; block = e.fault.block; next = e.report }

-- the sum of two records is about no block
abbrev pub whole_of : Joined → Counted
whole_of j = record { no = j.no; block = 0; next = j.next }
