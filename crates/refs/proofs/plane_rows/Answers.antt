-- Both edges and the corner are read, then finished as values. Assumes nothing.
use mathlib.Core.Path.{◌∙◌}
use Rattle.refs.specs.Seen.{finish_none, finish_some}
use Rattle.refs.proofs.plane_rows.Goals as goal

pub returns-then-not-r : goal.returns-then-not-r
returns-then-not-r c = let a = c.args in c.level_rows.ensures ∙ finish_none a.plane.now a.s a.r a.n a.neutral (c.if-not-r.true)

pub returns : goal.returns
returns c = let a = c.args in
    finish_some a.plane.now a.s a.r a.n a.neutral (c.if-not-r.false) c.requires.few
    (λ i. record { corner = c.corner_seen-seen.ensures i; above = c.edge.ensures i; left = c.edge-2.ensures i }) c.pad_rows-corner.ensures c.with_corner.ensures
