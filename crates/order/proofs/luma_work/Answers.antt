-- `order::luma_work` meets its contract: the code's rule over the luma plane is the luma rule.
use native.Mathlib.Omega.{arith}
use Rattle.domain.specs.Facts.{size_small}
use Rattle.order.specs.Good.{small_of, number_of}
use Rattle.order.specs.Blocks.{luma_fine, luma_sited, luma_edges}
use Rattle.order.proofs.luma_work.Goals as goal

pub shifts_of-s-requires : goal.shifts_of-s-requires
shifts_of-s-requires c = (luma_fine _ c.requires).good

pub number-cur-requires : goal.number-cur-requires
number-cur-requires c = let f = luma_fine _ c.requires in let n = size_small _ f.size in (small_of f.good _ c.shifts_of-s.ensures, omega (arith, f.good.tall.high, f.placed.row_in), omega (arith, f.good.wide.high, f.placed.col_in))

pub edges-requires : goal.edges-requires
edges-requires c = luma_sited _ (luma_fine _ c.requires) _ _ c.shifts_of-s.ensures c.luma_site.ensures

pub returns : goal.returns
returns c = luma_edges c.args.b (luma_fine _ c.requires) _ _ _ _ c.shifts_of-s.ensures c.luma_site.ensures (number_of c.args.b.picture _ _ c.args.b.row.0 c.args.b.col.0 c.shifts_of-s.ensures c.number-cur.ensures) c.edges.ensures
