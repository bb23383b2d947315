-- `order::left_reach` meets its contract: the edge's count is that of the block's samples.
use mathlib.Core.Path.{◌∙◌}
use native.Mathlib.Omega.{arith}
use Rattle.order.specs.Walk.{left_none, left_edge, left_count}
use Rattle.order.proofs.left_reach.Goals as goal

pub returns-then-e-eq0 : goal.returns-then-e-eq0
returns-then-e-eq0 c = left_none _ _ _ _ c.requires _ c.if-e-eq0.true

pub edge_reach-requires : goal.edge_reach-requires
edge_reach-requires c = left_edge _ _ _ _ c.requires

pub returns : goal.returns
returns c = c.edge_reach.ensures ∙ left_count _ _ _ _ c.requires _ (omega arith)
