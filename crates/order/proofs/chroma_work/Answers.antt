-- `order::chroma_work` meets its contract: the code's rule with its two limits is the chroma rule.
use native.Mathlib.Omega.{arith}
use Rattle.order.specs.Good.{small_of, number_of, number_small}
use Rattle.order.specs.Blocks.{chroma_fine, chroma_sited}
use Rattle.order.proofs.ChromaRule.{chroma_edges}
use Rattle.order.proofs.chroma_work.Goals as goal

pub shifts_of-s-requires : goal.shifts_of-s-requires
shifts_of-s-requires c = (chroma_fine _ c.requires).good

pub number-cur-requires : goal.number-cur-requires
number-cur-requires c = let f = chroma_fine _ c.requires in (small_of f.good _ c.shifts_of-s.ensures, omega (arith, f.good.tall.high, f.cur_row), omega (arith, f.good.wide.high, f.cur_col))

pub overflow_add-above_limit : goal.overflow_add-above_limit
overflow_add-above_limit c = let f = chroma_fine _ c.requires in record { fits = omega (arith, number_of c.args.b.picture _ _ c.args.b.cur_luma_row.0 c.args.b.cur_luma_col.0 c.shifts_of-s.ensures c.number-cur.ensures, number_small f.good f.cur_row f.cur_col) }

pub edges-requires : goal.edges-requires
edges-requires c = chroma_sited _ (chroma_fine _ c.requires) _ _ c.shifts_of-s.ensures c.chroma_site.ensures

pub returns : goal.returns
returns c = chroma_edges c.args.b (chroma_fine _ c.requires) _ _ _ _ c.shifts_of-s.ensures c.chroma_site.ensures (number_of c.args.b.picture _ _ c.args.b.cur_luma_row.0 c.args.b.cur_luma_col.0 c.shifts_of-s.ensures c.number-cur.ensures) c.edges.ensures
