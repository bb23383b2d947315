-- The text is within its buffer.
use Rattle.std.proofs.Common.{sym, length-take-le}
use Rattle.report.specs.Whole.{text_fits}
use Rattle.intrawalk.proofs.main.Goals as goal

pub slice_bounds-text-end : goal.slice_bounds-text-end
slice_bounds-text-end c = text_fits _ c.report-length.ensures

pub slice_bounds-write_all-end : goal.slice_bounds-write_all-end
slice_bounds-write_all-end c = sym (length-take-le _ _ (text_fits _ c.report-length.ensures))
