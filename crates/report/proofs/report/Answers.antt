-- `report::report` meets its contract: the text lies over zeros.
use Rattle.std.proofs.Common.{◌∙◌, refl, sym, ap, length}
use Rattle.report.specs.Whole.{report_is}
use Rattle.report.proofs.report.Goals as goal

pub returns : goal.returns
returns c =
    let laid = c.copy_from_slice.ensures.after ∙ c.as_bytes.ensures.value ∙ c.as_str.ensures.value in
    report_is _ _ _ _ (laid ∙ c.push_report.ensures) refl (c.len-length.ensures.value ∙ sym (ap length laid))
