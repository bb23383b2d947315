-- A report as 864 bytes, and what an entry for C leaves in them. Assumes nothing.
use Rattle.std.specs.Prelude.{ℕ, ◌+◌, ◌*◌, ◌/◌, ◌%◌, ◌^◌, List, cond, ◌&&◌, leb, length, get_or, replicate}
use Rattle.laws.specs.Choose.{served}
use Rattle.laws.specs.Fill.{fill, run}
use Rattle.laws.specs.Bytes.{le_at, byte_of}
use Rattle.errors.specs.declared.Report.{Report}
use Rattle.errors.specs.Errors.{count_bytes, join_reports}

-- the figures of 35 modes that begin at a byte, eight bytes each
abbrev pub figures_at : List ℕ → ℕ → List ℕ
figures_at b at = fill (λ m. le_at 8 b (at + m * 8)) 35 (replicate 35 0)

-- the report that bytes spell
abbrev pub report_at : List ℕ → Report
report_at b =
    record {
      bits = le_at 4 b 0;
      frame = record { width = le_at 4 b 4; height = le_at 4 b 8; ctu = le_at 4 b 12 };
      pairs = le_at 4 b 16;
      blocks = figures_at b 24;
      samples = figures_at b 304;
      squares = figures_at b 584;
    }

-- a number of four bytes stored at a place, and the figures of 35 modes
abbrev pub word_at_into : ℕ → ℕ → List ℕ → List ℕ
word_at_into at v b = run (λ j. v / 256 ^ j % 256) at 4 b

abbrev pub figures_into : ℕ → List ℕ → List ℕ → List ℕ
figures_into at l b = run (byte_of 8 (λ m. get_or l m 0)) at 280 b

-- what a counted pair, or a sum, leaves: its settings stay
abbrev pub report_into : Report → List ℕ → List ℕ
report_into r b = figures_into 584 r.squares (figures_into 304 r.samples (figures_into 24 r.blocks (word_at_into 16 r.pairs b)))

-- what an entry gives back, and what its record's bytes then are
pub record Entered : Type 0 where
  pub number : ℕ
  pub bytes : List ℕ

abbrev pub entered : ℕ → List ℕ → Entered
entered k b = record { number = k; bytes = b }

-- A pair: fewer than 864 bytes hold no record, which is 5 before all else. The block number stands at byte 20, after a refusal too.
unfoldable pub count_entry : List ℕ → List ℕ → List ℕ → List ℕ → Entered
count_entry a b plan d =
    let v = count_bytes (report_at d) a b plan in
    let noted = word_at_into 20 v.block d in
    cond (leb 864 (length d)) (entered v.no (served v.no (report_into v.next noted) noted)) (entered 5 d)

-- A sum of two records: the first becomes it.
unfoldable pub join_entry : List ℕ → List ℕ → Entered
join_entry other d =
    let v = join_reports (report_at d) (report_at other) in
    cond (leb 864 (length d) && leb 864 (length other)) (entered v.no (served v.no (report_into v.next d) d)) (entered 5 d)
