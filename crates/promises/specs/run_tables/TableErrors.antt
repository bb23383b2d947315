-- Document 02, Wish 14: the table of numbers where a pair of planes is counted, and where two reports are added; on samples, on bytes and
-- at the camera's entries. Rests on Exact and on the plan's rows.  Report::count_numbers, Report::count   count-pair
-- on_bytes::count_bytes   count-bytes   Report::join   join   record::count_into, salvrunde_count_errors   count-entry
-- record::join_into, salvrunde_join_errors   join-entry
use Rattle.std.specs.Prelude.{◌≡◌, cond, List, [], ◌∷◌, ℕ, suc, ◌+◌, ◌*◌, ◌/◌, ◌<◌, leb, length}
use Rattle.domain.specs.Facts.{Depth}
use Rattle.octets.specs.Bytes.{samples_of}
use Rattle.plan.specs.Answers.{Verdict}
use Rattle.plan.specs.tiling.Tiling.{picture_of}
use Rattle.plan.specs.tiling.Plan.{Plan}
use Rattle.plan.specs.RecordPlan.{records_of}
use Rattle.errors.specs.declared.Report.{Report}
use Rattle.errors.specs.Errors.{plane_area, top_of, samples_so_far, pair_verdict}
use Rattle.errors.specs.Errors.{plane_bytes_fit}
use Rattle.errors.specs.RecordBytes.{report_at}
use Rattle.promises.specs.tables.Exact.{Row, ◌when◌, ◌or◌}
use Rattle.promises.specs.tables.Table.{BadPicture}
use Rattle.promises.specs.run_tables.TableWalk.{about, plan_rows, Some, Ragged}

-- number 15: a mode has more than the pairs so far can give
abbrev pub OverLimits : Report → Type 0
OverLimits r =
    Some 0 (λ v. samples_so_far r / 16 < v) r.blocks or Some 0 (λ v. samples_so_far r < v) r.samples
    or Some 0 (λ v. samples_so_far r * (top_of r * top_of r) < v) r.squares

-- number 7: a sample of a plane above the depth's largest
abbrev pub TooHigh : Report → List ℕ → Type 0
TooHigh r plane = Some 0 (λ v. top_of r < v) plane

-- Wrong says that a plane has another length than it must
abbrev pub pair_table : Report → Type 0 → List ℕ → List ℕ → Plan → List (Row Verdict)
pair_table r Wrong a b plan =
    (about 1 0 when ¬ Depth r.bits) ∷ (about 4 0 when BadPicture (picture_of r.frame)) ∷ (about 5 0 when Ragged plan or Wrong)
    ∷ (about 7 0 when TooHigh r a or TooHigh r b)
    ∷ plan_rows r.frame plan ((about 15 0 when 65536 < suc r.pairs or OverLimits r) ∷ [])

-- a plane that is not the picture's size, in samples and in bytes
abbrev pub WrongPlanes : Report → ℕ → ℕ → Type 0
WrongPlanes r a b = (¬ (a ≡ plane_area r)) or (¬ (b ≡ plane_area r))

abbrev pub WrongBytes : Report → ℕ → ℕ → Type 0
WrongBytes r a b = (¬ (a ≡ 2 * plane_area r)) or (¬ (b ≡ 2 * plane_area r))

abbrev pub bytes_verdict : Report → List ℕ → List ℕ → List ℕ → Verdict
bytes_verdict r a b plan = pair_verdict r (plane_bytes_fit r (length a) (length b)) (samples_of a) (samples_of b) (records_of plan)

abbrev pub bytes_table : Report → List ℕ → List ℕ → List ℕ → List (Row Verdict)
bytes_table r a b plan = pair_table r (WrongBytes r (length a) (length b)) (samples_of a) (samples_of b) (records_of plan)

-- a record of bytes: fewer than 864 are 5 before all else
abbrev pub entry_verdict : List ℕ → List ℕ → List ℕ → List ℕ → Verdict
entry_verdict a b plan d = cond (leb 864 (length d)) (bytes_verdict (report_at d) a b plan) (about 5 0)

-- two reports
abbrev pub Differ : Report → Report → Type 0
Differ r s =
    (¬ (s.bits ≡ r.bits)) or (¬ (s.frame.width ≡ r.frame.width)) or (¬ (s.frame.height ≡ r.frame.height))
    or (¬ (s.frame.ctu ≡ r.frame.ctu))

abbrev pub join_table : Report → Report → List (Row ℕ)
join_table r s =
    (1 when ¬ Depth r.bits) ∷ (4 when BadPicture (picture_of r.frame) or Differ r s)
    ∷ (15 when 65536 < r.pairs + s.pairs or (OverLimits r or OverLimits s)) ∷ []
