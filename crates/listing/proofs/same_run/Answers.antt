-- `listing::same_run` meets its contract: the entries passed are the line's.
use Rattle.listing.specs.Laws.{same_none, same_more}
use Rattle.listing.proofs.same_run.Goals as goal

pub loop-i-init : goal.loop-i-init
loop-i-init c = same_none _ _ _ _

pub loop-i-preserved : goal.loop-i-preserved
loop-i-preserved c = same_more _ _ _ _ _ c.loop-i.invariant c.word-wanted.ensures c.entry-found.ensures
