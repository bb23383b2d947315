-- A report with one block more, and with the first blocks of a pair. Assumes nothing.
use Rattle.std.specs.Prelude.{List, ℕ}
use Rattle.plan.specs.declared.tiling.Block.{Block}
use Rattle.plan.specs.tiling.Plan.{Plan}
use Rattle.errors.specs.declared.Report.{Report}
use Rattle.errors.specs.Errors.{samples_in, tallied, pair_tally}
use Rattle.errors.specs.Served.{under_mode}

-- a block more, under its mode, its squares in hand
abbrev pub with_block : Report → Block → ℕ → Report
with_block r t squares =
    record {
      bits = r.bits;
      frame = r.frame;
      pairs = r.pairs;
      blocks = under_mode t r.blocks 1;
      samples = under_mode t r.samples (samples_in t);
      squares = under_mode t r.squares squares;
    }

-- the first k blocks of a plan, and a report with these of a pair
abbrev pub first_blocks : Plan → ℕ → Plan
first_blocks plan k = record { whole = plan.whole; count = k; block = plan.block }

abbrev pub with_first : Report → List ℕ → List ℕ → Plan → ℕ → Report
with_first r a b plan k = tallied r (pair_tally r.frame a b (first_blocks plan k))
