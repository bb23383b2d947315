-- Document 01, 'use from C': what a call of the replay on bytes refuses, by the plan and the residuals that the bytes spell, and how
-- it answers. Assumes nothing.
use Rattle.std.specs.Prelude.{ℕ, ◌*◌, Bool, cond, ◌&&◌, List, leb, eqb, length}
use Rattle.octets.specs.Bytes.{residuals_of, pair_into}
use Rattle.plan.specs.Answers.{Verdict}
use Rattle.plan.specs.RecordPlan.{records_of}
use Rattle.walk.specs.declared.checks.Still.{Still}
use Rattle.walk.specs.checks.Checks.{largest_in, call_no, residual_checks}
use Rattle.walk.specs.calls.Door.{verdict_of}

-- what a call is lent: the plan's and the residuals' bytes, and how many the plane and the result buffer have
pub record Lent : Type 0 where
  pub plan : List ℕ
  pub residuals : List ℕ
  pub plane : ℕ
  pub result : ℕ

abbrev pub lent_bytes : List ℕ → List ℕ → ℕ → ℕ → Lent
lent_bytes plan residuals plane result = record { plan = plan; residuals = residuals; plane = plane; result = result }

-- number 5: so many bytes for each of the picture's samples
abbrev pub whole_by : Still → ℕ → ℕ → Bool
whole_by s each len = eqb len (each * (s.frame.height * s.frame.width))

abbrev pub bytes_fit : Still → Lent → Bool
bytes_fit s l = whole_by s 2 l.plane && whole_by s 4 (length l.residuals) && (records_of l.plan).whole && leb 8 l.result

-- the number of the checks before the plan's: 1, 4, 5, then 8 and 14 over every residual
abbrev pub byte_no : Still → Lent → ℕ
byte_no s l = call_no s (bytes_fit s l) (residual_checks (largest_in s) (residuals_of l.residuals))

-- the verdict on a call with so many blocks done: those checks, then the plan's, then 11
unfoldable pub byte_verdict : Still → ℕ → Lent → Verdict
byte_verdict s done l = verdict_of s (records_of l.plan) done (byte_no s l)

-- a result buffer with two numbers written into it; a short one is left alone
unfoldable pub answered : ℕ → ℕ → List ℕ → List ℕ
answered block next d = cond (leb 8 (length d)) (pair_into block next d) d
