-- `planar_dc::edge` meets its contract. The DC edge: first row, first column, corner, in the order of `edges`.
use Rattle.predict.specs.planar_dc.Edge.{edges}
use Rattle.predict.proofs.planar_dc.edge.Goals as goal

pub returns : goal.returns
unfolding edges
returns c = rw (c.corner.ensures, c.edge_column.ensures, c.edge_row.ensures)
