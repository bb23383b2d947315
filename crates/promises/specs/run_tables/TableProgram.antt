-- Document 01, 'The program': `refused N B` is printed exactly when number N, about block B, has the first row that holds, and the
-- blocks' lines with their ending exactly when no row holds. Number 12 comes before the others; these are the walk's, as far as a
-- file that is not refused with 12 can bring them about. What is printed tells the number and the block. Rests on Exact and on the
-- walk's rows.
use Rattle.std.specs.Prelude.{◌≡◌, List, [], ◌∷◌, ◌++◌, ◌↔◌, ℕ, ◌+◌, ◌-◌, ◌*◌, ◌<◌}
use Rattle.std.proofs.Math.ListN.{length}
use Rattle.laws.specs.Bytes.{le_at}
use Rattle.domain.specs.Facts.{Depth}
use Rattle.plan.specs.Answers.{Verdict}
use Rattle.plan.specs.tiling.Tiling.{picture_of}
use Rattle.walk.specs.checks.Checks.{largest_in}
use Rattle.report.specs.file.File.{trailer_of, plan_in}
use Rattle.report.specs.sums.Sums.{agree}
use Rattle.report.specs.text.Text.{refusal, ending}
use Rattle.report.specs.Told.{Job, still_in, job_of, residuals, replayed_plane, lines, printed}
use Rattle.promises.specs.tables.Exact.{Row, ◌when◌, ◌or◌, First}
use Rattle.promises.specs.tables.Table.{BadPicture}
use Rattle.promises.specs.run_tables.TableWalk.{about, done, plan_rows}

-- number 12: under 16 or over 65,536 bytes, excess counts, or a region that passes the trailer's start
abbrev pub BadFile : List ℕ → Type 0
BadFile input =
    let t = trailer_of input in
    let start = length input - 16 in
    length input < 16 or 65536 < length input
    or (8192 < t.height * t.width or 512 < t.blocks or start < t.samples + 2 * (t.height * t.width) or start < t.plan + 6 *
    t.blocks)

-- number 7: one of the file's samples above the depth's largest
abbrev pub BadSample : List ℕ → Type 0
BadSample input = let t = trailer_of input in (i : ℕ)
    × ((i < t.height * t.width) × (largest_in (still_in t) < le_at 2 input (t.samples + 2 * i)))

-- the rows of a file that number 12 is not given for, and the program's
abbrev pub file_rows : List ℕ → List (Row Verdict)
file_rows input =
    let t = trailer_of input in
    let s = still_in t in
    (about 1 0 when ¬ Depth s.bits)
    ∷ (about 4 0 when BadPicture (picture_of s.frame))
    ∷ (about 7 0 when BadSample input)
    ∷ plan_rows s.frame (plan_in input t) []

abbrev pub program_rows : List ℕ → List (Row Verdict)
program_rows input = (about 12 0 when BadFile input) ∷ file_rows input

-- what is printed where nothing is refused
abbrev pub served_text : Job → List ℕ
served_text j = lines j.plan.block (residuals j) j.plan.count ++ ending j.plan.count
    (agree (replayed_plane j) j.source (length j.source))

pub record ProgramTable (input : List ℕ) : Type 0 where
  pub refused : (n block : ℕ) → (printed input ≡ refusal n block) ↔ ((¬ (n ≡ 0)) × First done (about n block) (program_rows input))
  pub ended : (printed input ≡ served_text (job_of input)) ↔ First done done (program_rows input)
