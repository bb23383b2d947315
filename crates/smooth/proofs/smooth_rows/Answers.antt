-- `smooth::smooth_rows` meets its contract. The one form or the other, by the test. Assumes nothing.
use mathlib.Core.Path.{sym, ◌∙◌}
use Rattle.smooth.specs.Steps.{give_strong, give_weak}
use Rattle.smooth.proofs.smooth_rows.Goals as goal

pub returns-then-is_strong : goal.returns-then-is_strong
returns-then-is_strong c = let a = c.args in
    give_strong a.allowed a.bits a.n a.corner a.above.now a.left.now (sym c.is_strong.ensures ∙ c.if-is_strong.true) c.strong_row-a.ensures c.strong_row-l.ensures

pub returns : goal.returns
returns c = let a = c.args in
    give_weak a.allowed a.bits a.n a.corner a.above.now a.left.now (sym c.is_strong.ensures ∙ c.if-is_strong.false) c.tap-c.ensures c.weak_row-a.ensures c.weak_row-l.ensures
