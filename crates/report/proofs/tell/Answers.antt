-- `report::tell` meets its contract. A refused walk is told as such; a served one is replayed, compared, and told block by block.
use Rattle.std.proofs.Common.{◌++◌, ◌∙◌, ap, refl, length}
use Rattle.domain.specs.Refusal.{number}
use Rattle.domain.specs.Refused.{never_0}
use Rattle.report.specs.text.Text.{refusal, ending}
use Rattle.report.specs.Whole.{refused_told, listed_all, source_long, served_told}
use Rattle.report.proofs.tell.Goals as goal

pub returns-in-Err : goal.returns-in-Err
returns-in-Err c =
    let f = c.in-Err.rejected.fault in
    c.push_refusal.ensures ∙ ap (λ d. d ++ refusal (number f.why) f.block) c.requires.empty
    ∙ refused_told c.in-Err.ensures c.requires.blank.world (never_0 f.why)

pub agrees-same-requires : goal.agrees-same-requires
agrees-same-requires c =
    let p = c.requires.blank in
    c.replay_all.auto.plane ∙ source_long c.in-Ok.ensures p.world refl _ p.plane_zero

pub push_lines-requires-clause-plan : goal.push_lines-requires-clause-plan
push_lines-requires-clause-plan c =
    let p = c.requires.blank in
    listed_all c.in-Ok.ensures p.world refl _ c.walk_all.auto.residuals p.few

pub returns-in-Ok : goal.returns-in-Ok
returns-in-Ok c =
    let p = c.requires.blank in
    let told = served_told c.in-Ok.ensures p.world refl _ _ _ p.plane_zero c.replay_all.ensures c.agrees-same.ensures in
    c.push_ending.ensures ∙ ap (λ d. d ++ ending (length c.args.job.now.plan.now) c.agrees-same.result) c.push_lines.ensures.bytes ∙ told
