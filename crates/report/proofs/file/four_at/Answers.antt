-- `file::four_at` meets its contract.
use Rattle.report.specs.file.Laws.{le_four}
use Rattle.report.proofs.file.four_at.Goals as goal

pub returns : goal.returns
returns c = rw (c.from_le_bytes.ensures, c.byte_at.ensures, c.byte_at-2.ensures, c.byte_at-3.ensures, c.byte_at-4.ensures) (le_four _ _)
