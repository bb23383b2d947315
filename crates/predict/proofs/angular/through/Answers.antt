-- `angular::through` meets its contract. What went by way of the local array is what was read. Assumes nothing.
use mathlib.Core.Path.{◌∙◌}
use Prim.Native.Nat.{ℕ, ◌+◌}
use lib.ListN.{get_or, replicate}
use Rattle.predict.specs.angular.Reach.{by_way}
use borrow.Author.Rules.{rules}
use Rattle.predict.proofs.angular.through.Goals as goal

pub returns : goal.returns
returns c = let a = c.args in
    c.copy_row-2.ensures ∙ by_way (λ (k : ℕ). get_or a.refs.now (a.s + k) 0) _ (replicate 32 0) a.pred.now a.at a.n (search rules) c.copy_row.ensures
