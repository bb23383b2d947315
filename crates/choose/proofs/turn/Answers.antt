-- `choose::turn` meets its contract. The loop makes the block row by row. Assumes nothing.
use mathlib.Core.Path.{◌∙◌}
use Rattle.laws.specs.FillLaws.{rows_more}
use Rattle.choose.proofs.turn.Goals as goal

pub loop-r-preserved : goal.loop-r-preserved
loop-r-preserved c = c.turn_row.ensures ∙ rows_more _ _ _ _ c.loop-r.invariant
