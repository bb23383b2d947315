-- Document 01, 'use from C': what a call of the replay on bytes gives and leaves behind, by the plan, the samples and the residuals
-- that the bytes spell. Assumes nothing.
use Rattle.std.specs.Prelude.{ℕ, ◌+◌, List, length}
use Rattle.laws.specs.Choose.{served}
use Rattle.laws.specs.Chain.{units}
use Rattle.octets.specs.Bytes.{samples_of, bytes_of, residuals_of}
use Rattle.plan.specs.RecordPlan.{records_of}
use Rattle.walk.specs.declared.checks.Still.{Still}
use Rattle.walk.specs.calls.Steps.{doing_of}
use Rattle.walk.specs.block.Rebuilt.{replay_unit}
use Rattle.camera.specs.replay.Verdict.{Lent, byte_verdict, answered}

-- what a call writes: the number of the block that it is about, 0 where it is served
abbrev pub block_written : Still → ℕ → Lent → ℕ
block_written s done l = let v = byte_verdict s done l in served v.no 0 v.block

-- and the next record, or the record as given where it is refused
abbrev pub next_written : Still → ℕ → Lent → ℕ → ℕ
next_written s done l grant = served (byte_verdict s done l).no (done + doing_of (records_of l.plan).count done grant) done

-- the plane after a call
unfoldable pub plane_after : Still → ℕ → Lent → ℕ → List ℕ → List ℕ
plane_after s done l grant plane =
    let plan = records_of l.plan in
    served (byte_verdict s done l).no
    (bytes_of (units (replay_unit s plan.block (residuals_of l.residuals)) done (doing_of plan.count done grant) (samples_of plane)))
    plane

-- the result buffer after a call: block number and next record
unfoldable pub result_after : Still → ℕ → Lent → ℕ → List ℕ → List ℕ
result_after s done l grant result = answered (block_written s done l) (next_written s done l grant) result

-- a call's number, and what it leaves in the plane and in the result buffer
pub record After : Type 0 where
  pub number : ℕ
  pub plane : List ℕ
  pub result : List ℕ

-- A call on bytes: plan and residuals, a grant, and the plane and the result buffer as they were.
unfoldable pub replayed : Still → ℕ → List ℕ → List ℕ → ℕ → List ℕ → List ℕ → After
replayed s done plan residuals grant plane result =
    let l : Lent = record { plan = plan; residuals = residuals; plane = length plane; result = length result } in
    record { number = (byte_verdict s done l).no; plane = plane_after s done l grant plane; result = result_after s done l grant result }
