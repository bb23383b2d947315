-- `report::tell_file` meets its contract. The parts of the arrays are what the file asks to be walked, and zeros.
use Rattle.std.proofs.Common.{◌∙◌, refl, sym, ap}
use Rattle.plan.specs.tiling.Plan.{no_block}
use Rattle.report.specs.Told.{told}
use Rattle.report.specs.Whole.{fill_long, blank_part, job_is}
use Rattle.report.proofs.tell_file.Goals as goal

pub tell-requires-clause-blank : goal.tell-requires-clause-blank
tell-requires-clause-blank c =
    let blocks = sym (fill_long _ _ 512 no_block c.read_plan-plan.ensures c.requires.good.blocks_few) in
    blank_part _ _ _ _ _ _ _ c.requires.good c.still.ensures c.area-samples.ensures.0 blocks refl refl refl

pub returns : goal.returns
returns c =
    let good = c.requires.good in
    let samples = c.area-samples.ensures.0 in
    let job = job_is _ c.args.t _ _ _ _ good c.still.ensures samples c.read_plan-plan.ensures c.read_samples-source.ensures in
    c.tell.ensures ∙ ap told job
