-- What the entry for the error report hands over, from the definition of the door behind it. Assumes nothing.
use Rattle.std.specs.Prelude.{ℕ, List}
use Rattle.errors.specs.declared.Report.{Report}
use Rattle.errors.specs.Answers.{Counted}
use Rattle.probes.specs.declared.error_probes.CountAnswer.{CountAnswer}

-- a report of bare numbers
abbrev pub report_with : ℕ → ℕ → ℕ → ℕ → ℕ → List ℕ → List ℕ → List ℕ → Report
report_with bits width height ctu pairs blocks samples squares =
    record {
      bits = bits;
      frame = record { width = width; height = height; ctu = ctu };
      pairs = pairs;
      blocks = blocks;
      samples = samples;
      squares = squares;
    }

abbrev pub count_answer : Counted → CountAnswer
count_answer v =
    record {
      no = v.no;
      block = v.block;
      pairs = v.next.pairs;
      blocks = v.next.blocks;
      samples = v.next.samples;
      squares = v.next.squares;
    }
