-- The search, then the rows where they stand. Assumes nothing.
use mathlib.Core.Path.{◌∙◌}
use Rattle.refs.specs.substitution.Line.{none_there, some_there}
use Rattle.refs.proofs.substitution.substitute.Goals as goal

pub returns-then-found-e : goal.returns-then-found-e
returns-then-found-e c = let a = c.args in
    let m = c.first_marked-found in
    c.level_rows.ensures ∙ none_there a.n a.neutral a.flags a.rows m.ensures c.if-found-e.true

pub returns : goal.returns
returns c = let a = c.args in
    c.settle-corner.ensures
    ∙ some_there a.n a.neutral a.flags a.rows c.first_marked-found.ensures c.if-found-e.false
