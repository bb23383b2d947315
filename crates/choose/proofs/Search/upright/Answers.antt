-- `choose::Search::upright` meets its contract. The rule decides which border a mode is predicted from. Rests on the rule.
use mathlib.Core.Path.{refl, sym, ◌∙◌}
use Rattle.domain.specs.Facts.{size_of}
use Rattle.choose.specs.Given.{neighbours}
use Rattle.choose.specs.Sums.{sum_smoothed, sum_as_is}
use Rattle.choose.proofs.Search.upright.Goals as goal

pub returns-then-smooths : goal.returns-then-smooths
returns-then-smooths c = let a = c.args in
    let s = a.self.now in
    let k = s.block in
    let flag = sym c.smooths.ensures ∙ c.if-smooths.true in (
      refl,
      (
        refl,
        sum_smoothed k.bits k.n a.mode (size_of k.n k.size) c.requires (neighbours s.border) k.samples.now
            (neighbours s.smooth) flag (s.smooths.smooth a.mode flag),
      ),
    )

pub returns : goal.returns
returns c = let a = c.args in
    let s = a.self.now in
    let k = s.block in (
      refl,
      (
        refl,
        sum_as_is k.bits k.n a.mode (size_of k.n k.size) c.requires (neighbours s.border) k.samples.now
            (sym c.smooths.ensures ∙ c.if-smooths.false),
      ),
    )
