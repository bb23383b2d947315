-- `angular::edge_col` meets its contract. What went by way of the local array is the column. Assumes nothing.
use mathlib.Core.Path.{◌∙◌}
use Prim.Native.Nat.{ℕ}
use lib.ListN.{get_or, replicate}
use Rattle.samples.specs.taps.Taps.{edge_of}
use Rattle.predict.specs.angular.Reach.{column_by_fill}
use borrow.Author.Rules.{rules}
use Rattle.predict.proofs.angular.edge_col.Goals as goal

pub returns : goal.returns
returns c = let a = c.args in
    c.put_col.ensures ∙ column_by_fill (λ (k : ℕ). edge_of a.max a.a (get_or a.left.now k 0) a.corner) _ (replicate 32 0) a.pred.now 0 a.n (search rules) c.edges.ensures
