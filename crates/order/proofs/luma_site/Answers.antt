-- `order::luma_site` meets its contract: a block that is not refused is in its picture.
use native.Mathlib.Omega.{arith}
use Rattle.order.specs.Blocks.{luma_fine}
use Rattle.order.proofs.luma_site.Goals as goal

pub overflow_sub-result : goal.overflow_sub-result
overflow_sub-result c = omega (arith, (luma_fine _ c.requires).placed.row_in)

pub overflow_sub-result-2 : goal.overflow_sub-result-2
overflow_sub-result-2 c = omega (arith, (luma_fine _ c.requires).placed.col_in)
