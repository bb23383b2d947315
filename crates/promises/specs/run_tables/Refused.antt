-- Document 01, 'Refusals', for walk, replay, checksum and the camera's entries: a refused call hands back the progress record as given,
-- a sum of 0, and leaves what is lent. The other doors are in promises/specs/tables/Refused. Rests on `kept` there.
use Rattle.std.specs.Prelude.{◌≡◌, Bool, List, ℕ, ℤ, length}
use Rattle.std.proofs.Math.Path.{ap₂}
use Rattle.plan.specs.Answers.{Verdict}
use Rattle.plan.specs.tiling.Plan.{Plan}
use Rattle.walk.specs.declared.checks.Still.{Still}
use Rattle.walk.specs.declared.Progress.{Progress}
use Rattle.walk.specs.block.Walked.{World}
use Rattle.walk.specs.checks.Checks.{Tables}
use Rattle.walk.specs.calls.Door.{replay_verdict, replay_after, walk_verdict, walk_after}
use Rattle.walk.specs.calls.Laws.{replay_refused, walk_refused}
use Rattle.walk.specs.Door.{stepped_by}
use Rattle.checksum.specs.declared.RowRange.{RowRange}
use Rattle.checksum.specs.Checksum.{checksum_no, summed_by}
use Rattle.camera.specs.replay.Verdict.{Lent, byte_verdict, answered}
use Rattle.camera.specs.replay.Door.{plane_after, result_after}
use Rattle.camera.specs.Written.{entry}
use Rattle.promises.specs.tables.Refused.{kept}

-- walk and replay: the record as given, nothing done, and what is lent untouched
pub stepped : (v : Verdict) (plan : Plan) (p : Progress) (grant : ℕ) → ¬ (v.no ≡ 0) → stepped_by v plan p grant
    ≡ record { no = v.no; block = v.block; did = 0; next = p }
stepped v plan p grant h = kept v.no _ (record { no = v.no; block = v.block; did = 0; next = p }) h

module _ (s : Still) (plan : Plan) (t : Tables) (p : Progress) (grant : ℕ) where
  pub walk : (source : List ℕ) (w : World) → ¬ ((walk_verdict s plan t p.done source w).no ≡ 0)
      → walk_after s plan t p.done grant source w ≡ w
  walk = walk_refused s plan t p.done grant

  pub replay : (residuals : List ℤ) (plane : List ℕ) → ¬ ((replay_verdict s plan t p.done (length plane) residuals).no ≡ 0)
      → replay_after s plan t p.done grant residuals plane ≡ plane
  replay = replay_refused s plan t p.done grant

-- the picture checksum: sum 0
pub picture-checksum : (r : RowRange) (fit : Bool) (plane : List ℕ) (sum : ℕ) → ¬ ((summed_by r fit plane sum).no ≡ 0)
    → (summed_by r fit plane sum).sum ≡ 0
unfolding summed_by
picture-checksum r fit plane sum h = kept (checksum_no r fit plane) _ 0 h

-- the camera's entries: a refused gather, prediction or checksum, each an `entry`, leaves its buffer; a refused replay leaves the plane,
-- and writes the block number and the record as given, unless the result buffer is short
pub entries : (k : ℕ) (work out : List ℕ) → ¬ ((entry k work out).number ≡ 0) → (entry k work out).bytes ≡ out
unfolding entry
entries k work out h = kept k work out h

module _ (s : Still) (done : ℕ) (l : Lent) (grant : ℕ) (h : ¬ ((byte_verdict s done l).no ≡ 0)) where
  pub byte_plane : (plane : List ℕ) → plane_after s done l grant plane ≡ plane
  unfolding plane_after
  byte_plane plane = kept (byte_verdict s done l).no _ plane h

  pub byte_result : (result : List ℕ) → result_after s done l grant result ≡ answered (byte_verdict s done l).block done result
  unfolding result_after
  byte_result result = ap₂ (λ (b k : ℕ). answered b k result) (kept (byte_verdict s done l).no 0 _ h)
      (kept (byte_verdict s done l).no _ done h)
