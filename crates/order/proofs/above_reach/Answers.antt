-- `order::above_reach` meets its contract: the edge's count is that of the block's samples.
use mathlib.Core.Path.{◌∙◌}
use native.Mathlib.Omega.{arith}
use Rattle.order.specs.Walk.{above_none, above_edge, above_count}
use Rattle.order.proofs.above_reach.Goals as goal

pub returns-then-e-eq0 : goal.returns-then-e-eq0
returns-then-e-eq0 c = above_none _ _ _ _ c.requires _ c.if-e-eq0.true

pub edge_reach-requires : goal.edge_reach-requires
edge_reach-requires c = above_edge _ _ _ _ c.requires

pub returns : goal.returns
returns c = c.edge_reach.ensures ∙ above_count _ _ _ _ c.requires _ (omega arith)
