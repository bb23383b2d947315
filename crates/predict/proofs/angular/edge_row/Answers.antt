-- `angular::edge_row` meets its contract. What went by way of the local array is the row. Assumes nothing.
use mathlib.Core.Path.{◌∙◌}
use Prim.Native.Nat.{ℕ}
use lib.ListN.{get_or, replicate}
use Rattle.samples.specs.taps.Taps.{edge_of}
use Rattle.predict.specs.angular.Reach.{fill_by_way}
use borrow.Author.Rules.{rules}
use Rattle.predict.proofs.angular.edge_row.Goals as goal

pub returns : goal.returns
returns c = let a = c.args in
    c.copy_row.ensures ∙ fill_by_way (λ (k : ℕ). edge_of a.max a.a (get_or a.above.now k 0) a.corner) _ (replicate 32 0) a.pred.now a.n (search rules) c.edges.ensures
