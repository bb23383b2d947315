-- Left, the corner, above. Assumes nothing.
use mathlib.Core.Path.{ap, ◌∙◌}
use Rattle.refs.specs.Seen.{with_corner, two_set_back, first_kept}
use Rattle.refs.specs.substitution.InPlace.{above_settled, settled_rows}
use Rattle.refs.proofs.substitution.settle.Goals as goal

pub returns : goal.returns
returns c = let a = c.args in
    let l = c.fill_left-beside in
    let k = c.choose-between in
    two_set_back a.two.now _ _ _ c.requires.2
    ∙ settled_rows a.has_left.now a.has_above.now a.has_corner (with_corner a.corner a.two.now) a.e a.found
    c.sample_on-start.ensures l.ensures.0 l.ensures.1 k.ensures
    (c.fill_above.ensures ∙ ap (above_settled a.has_above.now a.e k.result) (first_kept a.two.now _))
