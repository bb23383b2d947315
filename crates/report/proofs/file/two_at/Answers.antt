-- `file::two_at` meets its contract.
use Rattle.report.specs.file.Laws.{le_two}
use Rattle.report.proofs.file.two_at.Goals as goal

pub returns : goal.returns
returns c = rw (c.from_le_bytes.ensures, c.byte_at.ensures, c.byte_at-2.ensures) (le_two _ _)
