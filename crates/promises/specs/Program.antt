-- Document 01, 'The program': intrawalk never prints `differs`. Whatever its input, it prints a refusal, or the lines of all blocks
-- and then `same`. Rests on demand 3.
use Rattle.std.specs.Prelude.{◌≡◌, true, List, ◌++◌, ℕ}
use Rattle.report.specs.text.Text.{refusal, ending}
use Rattle.report.specs.Told.{residuals, lines}
use Rattle.report.specs.Told.{Job as File}

-- what a refused input is told
abbrev pub Refused : List ℕ → Type 0
Refused text = (number : ℕ) × (block : ℕ) × (text ≡ refusal number block)

-- what a served one is told
abbrev pub Same : File → List ℕ → Type 0
Same f text = text ≡ lines f.plan.block (residuals f) f.plan.count ++ ending f.plan.count true
