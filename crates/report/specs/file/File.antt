-- Document 01, 'The program': the input's trailer, its two regions and number 12, and the source and the plan in it. Assumes nothing.
use Rattle.std.specs.Prelude.{ℕ, ◌+◌, ◌-◌, ◌*◌, Bool, ◌&&◌, List, leb, length, get_or, replicate}
use Rattle.laws.specs.Fill.{fill}
use Rattle.laws.specs.Bytes.{le_at}
use Rattle.plan.specs.declared.tiling.Block.{Block}
use Rattle.plan.specs.tiling.Plan.{Plan, plan_of}
use Rattle.report.specs.declared.file.Trailer.{Trailer}

-- the last 16 bytes, little-endian
abbrev pub trailer_of : List ℕ → Trailer
trailer_of b =
    let t = length b - 16 in
    record {
      samples = le_at 4 b t;
      plan = le_at 4 b (t + 4);
      blocks = le_at 2 b (t + 8);
      width = le_at 2 b (t + 10);
      height = le_at 2 b (t + 12);
      bits = get_or b (t + 14) 0;
      ctu = get_or b (t + 15) 0;
    }

-- how many samples the picture has
abbrev pub area_of : Trailer → ℕ
area_of t = t.height * t.width

-- counts within their limits, and two regions that do not pass the trailer's start
abbrev pub regions_ok : Trailer → ℕ → Bool
regions_ok t start = leb (area_of t) 8192 && leb t.blocks 512 && leb (t.samples + 2 * area_of t) start
    && leb (t.plan + 6 * t.blocks) start

-- number 12 is given for every other input
unfoldable pub file_ok : List ℕ → Bool
file_ok b = leb 16 (length b) && leb (length b) 65536 && regions_ok (trailer_of b) (length b - 16)

-- the list f 0, f 1, .., f (k - 1), whose entries are like z
abbrev pub tabulated : {A : Type 0} → (ℕ → A) → ℕ → A → List A
tabulated f k z = fill f k (replicate k z)

-- samples of two bytes
abbrev pub source_of : List ℕ → Trailer → List ℕ
source_of b t = tabulated (λ i. le_at 2 b (t.samples + 2 * i)) (area_of t) 0

-- a field of each of n block records of six bytes: of two bytes, or of one
abbrev pub twos_at : List ℕ → ℕ → ℕ → List ℕ
twos_at b at n = tabulated (λ k. le_at 2 b (at + 6 * k)) n 0

abbrev pub ones_at : List ℕ → ℕ → ℕ → List ℕ
ones_at b at n = tabulated (λ k. get_or b (at + 6 * k) 0) n 0

-- the block record of six bytes from i on
abbrev pub block_in : List ℕ → ℕ → Block
block_in b i = record { row = le_at 2 b i; col = le_at 2 b (i + 2); side = get_or b (i + 4) 0; mode = get_or b (i + 5) 0 }

-- the plan: row and column of two bytes, side and mode of one
abbrev pub plan_in : List ℕ → Trailer → Plan
plan_in b t = plan_of (twos_at b t.plan t.blocks) (twos_at b (t.plan + 2) t.blocks) (ones_at b (t.plan + 4) t.blocks)
    (ones_at b (t.plan + 5) t.blocks)
