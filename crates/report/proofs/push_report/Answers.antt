-- `report::push_report` meets its contract: number 12 before everything.
use Rattle.std.proofs.Common.{◌++◌, ◌∙◌, true, false, ap}
use Rattle.domain.specs.Refusal.{number}
use Rattle.plan.specs.declared.tiling.Fault.{Fault}
use Rattle.report.specs.text.Text.{refusal}
use Rattle.report.specs.Whole.{held_file, printed_is}
use Rattle.report.proofs.push_report.Goals as goal

pub tell_file-requires-clause-good : goal.tell_file-requires-clause-good
tell_file-requires-clause-good c = held_file _ _ c.in-Some.ensures.0 c.in-Some.ensures.1

pub returns-in-Some : goal.returns-in-Some
returns-in-Some c = c.tell_file.ensures ∙ printed_is _ true c.in-Some.ensures.0

pub returns-in-None : goal.returns-in-None
returns-in-None c = c.push_refusal.ensures ∙ ap (λ (f : Fault). c.args.text.now.bytes ++ refusal (number f.why) f.block) c.from.ensures
    ∙ ap (λ d. d ++ refusal 12 0) c.requires ∙ printed_is _ false c.in-None.ensures
