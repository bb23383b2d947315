-- `angular::row` meets its contract. What went by way of the local array is what was mixed. Assumes nothing.
use mathlib.Core.Path.{◌∙◌}
use Prim.Native.Nat.{ℕ, ◌+◌}
use lib.ListN.{get_or, replicate}
use Rattle.samples.specs.taps.Taps.{interp_of}
use Rattle.predict.specs.angular.Reach.{by_way}
use borrow.Author.Rules.{rules}
use Rattle.predict.proofs.angular.row.Goals as goal

pub returns : goal.returns
returns c = let a = c.args in
    c.copy_row.ensures ∙ by_way (λ (k : ℕ). interp_of a.f (get_or a.refs.now (a.s + k) 0) (get_or a.refs.now (a.s + k + 1) 0)) _ (replicate 32 0) a.pred.now a.at a.n (search rules) c.mix_row.ensures
