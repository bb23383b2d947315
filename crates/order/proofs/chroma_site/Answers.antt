-- `order::chroma_site` meets its contract: a block that is not refused is in its plane.
use mathlib.Core.Path.{ap}
use native.Mathlib.Omega.{arith}
use Rattle.fmt.specs.declared.ChromaRow.{ChromaRow}
use Rattle.fmt.specs.declared.ChromaCol.{ChromaCol}
use Rattle.order.specs.Blocks.{chroma_fine}
use Rattle.order.proofs.chroma_site.Goals as goal

pub overflow_sub-result : goal.overflow_sub-result
overflow_sub-result c = omega (arith, ap (λ (r : ChromaRow). r.0) c.chroma_row-height.ensures, (chroma_fine _ c.requires).placed.row_in)

pub overflow_sub-result-2 : goal.overflow_sub-result-2
overflow_sub-result-2 c = omega (arith, ap (λ (r : ChromaCol). r.0) c.chroma_col-width.ensures, (chroma_fine _ c.requires).placed.col_in)
