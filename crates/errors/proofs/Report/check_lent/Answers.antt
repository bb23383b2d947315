-- The checks before the plan's, over both planes. Assumes nothing.
use mathlib.Core.Path.{ap, ◌∙◌}
use mathlib.Core.Bool.{Bool, ◌&&◌}
use Rattle.laws.specs.Choose.{both_same}
use Rattle.errors.specs.Errors.{pair_no}
use Rattle.errors.specs.Served.{by_top}
use Rattle.errors.proofs.Report.check_lent.Goals as goal

pub returns : goal.returns
returns g c = let s = g.S.Samples in
    let a = c.args in
    let size = c.area-size.ensures in
    let fit = both_same (c.exactly.ensures ∙ ap (s.exactly a.a) size) (c.exactly-2.ensures ∙ ap (s.exactly a.b) size) in
    c.check_settings.ensures
    ∙ ap (λ (f : Bool). pair_no a.self (a.whole && f) (c.samples_ok.result && c.samples_ok-2.result)) fit
    ∙ by_top a.self _ (s.list a.a) (s.list a.b) c.largest_of-largest.ensures c.samples_ok.ensures c.samples_ok-2.ensures
