-- `order::comes_before` meets its contract: a coordinate below 0, or natural ones.
use mir.ValLaws.{to_z-of_z}
use mir.Syntax.{w64}
use Rattle.order.specs.Signs.{low_row, low_col}
use Rattle.order.proofs.comes_before.Goals as goal

pub returns-then-row-lt0 : goal.returns-then-row-lt0
returns-then-row-lt0 c = low_row _ _ _ _ _ (to_z-of_z w64 c.args.row c.ranges.row) c.if-row-lt0.true

pub returns-then-col-lt0 : goal.returns-then-col-lt0
returns-then-col-lt0 c = low_col _ _ _ _ _ (to_z-of_z w64 c.args.col c.ranges.col) c.if-col-lt0.true
