-- The kit's digits are those of the definition.
use Rattle.std.proofs.Common.{arith}
use Rattle.std.proofs.lemmas.Grind.{common_steps}
use Rattle.report.specs.text.Laws.{spelled}
use Rattle.report.proofs.text.push_number.Goals as goal

pub returns-clause-bytes : goal.returns-clause-bytes
returns-clause-bytes c = let digits = spelled c.args.n c.ranges.n.fits in grind (arith, common_steps, digits)
