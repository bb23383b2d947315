-- Document 01, 'The program': what it prints, from the walk of the still and from the replay of its residuals over zeros. Assumes nothing.
use Rattle.std.specs.Prelude.{ℕ, zero, suc, ◌*◌, cond, List, [], ◌++◌, eqb, ℤ, pos, length, replicate}
use Rattle.std.specs.Borrow.{Bor}
use denote.Triple.Both.{Both}
use Rattle.plan.specs.Answers.{Verdict}
use Rattle.plan.specs.declared.tiling.Block.{Block}
use Rattle.plan.specs.tiling.Tiling.{place}
use Rattle.plan.specs.tiling.Plan.{Plan, listed}
use Rattle.walk.specs.declared.checks.Still.{Still}
use Rattle.walk.specs.declared.Progress.{Progress}
use Rattle.walk.specs.block.Walked.{World}
use Rattle.walk.specs.Lent.{scratch_tables, lent_plan}
use Rattle.walk.specs.calls.Door.{walk_verdict, walk_after, replay_after}
use Rattle.report.specs.declared.Job.{Job as Held}
use Rattle.report.specs.declared.Printout.{Printout}
use Rattle.report.specs.declared.file.Trailer.{Trailer}
use Rattle.report.specs.file.File.{trailer_of, file_ok, source_of, plan_in}
use Rattle.report.specs.sums.Sums.{agree, absolutes}
use Rattle.report.specs.text.Text.{laid, block_line, refusal, ending}

-- a file's contents: the still, its plan and its source
pub record Job : Type 0 where
  pub still : Still
  pub plan : Plan
  pub source : List ℕ

-- the same as the program holds it
abbrev pub held_job : Held → Job
held_job h = record { still = h.still; plan = listed h.plan.now; source = h.source.now }

-- the same in a still and lent slices, as they stand in an `ensures`
abbrev pub Numbers : Type 0
Numbers = Both (Bor (List ℕ)) (Bor (List ℕ))

abbrev pub lent_job : Still → Numbers → Numbers → Numbers → Numbers → Numbers → Job
lent_job still rows cols sides modes source = record { still = still; plan = lent_plan rows cols sides modes; source = source.entry.now }

-- the still that a trailer names
abbrev pub still_in : Trailer → Still
still_in t = record { bits = t.bits; frame = record { width = t.width; height = t.height; ctu = t.ctu } }

abbrev pub job_of : List ℕ → Job
job_of b = let t = trailer_of b in record { still = still_in t; plan = plan_in b t; source = source_of b t }

-- the program's own: a fresh record, a plane of zeros, work plane and residuals before the walk
abbrev pub none_done : Progress
none_done = record { done = 0 }

abbrev pub zeros : Still → List ℕ
zeros s = replicate (s.frame.height * s.frame.width) 0

abbrev pub blank : Still → World
blank s = record { work = zeros s; residuals = replicate (s.frame.height * s.frame.width) (pos 0) }

-- the walk's verdict and its residuals
abbrev pub verdict : Job → Verdict
verdict j = walk_verdict j.still j.plan scratch_tables 0 j.source (blank j.still)

abbrev pub residuals : Job → List ℤ
residuals j = (walk_after j.still j.plan scratch_tables 0 j.plan.count j.source (blank j.still)).residuals

-- the replay over zeros
abbrev pub replayed_plane : Job → List ℕ
replayed_plane j = replay_after j.still j.plan scratch_tables 0 j.plan.count (residuals j) (zeros j.still)

-- the lines of the first k blocks
unfoldable pub lines : (ℕ → Block) → List ℤ → ℕ → List ℕ
lines plan v zero = []
lines plan v (suc k) = lines plan v k ++ block_line (plan k) (absolutes v (place plan k) ((plan k).side * (plan k).side))

-- what is printed of a file that number 12 is not given for
unfoldable pub told : Job → List ℕ
told j =
    let v = verdict j in
    cond (eqb v.no 0)
    (lines j.plan.block (residuals j) j.plan.count ++ ending j.plan.count
    (agree (replayed_plane j) j.source (length j.source)))
    (refusal v.no v.block)

-- and of every input: number 12 comes before everything
unfoldable pub printed : List ℕ → List ℕ
printed b = cond (file_ok b) (told (job_of b)) (refusal 12 0)

-- the text in its buffer, and its length
abbrev pub report_of : List ℕ → Printout
report_of b = record { text = laid 0 (printed b) (replicate 65536 0); length = length (printed b) }
