-- `planar_dc::edge_row` meets its contract. That row into the block by way of a local array (`by_way`).
use Prim.Native.Nat.{ℕ}
use mathlib.Core.Path.{◌∙◌}
use lib.ListN.{get_or, replicate}
use borrow.Author.Rules.{rules}
use Rattle.samples.specs.taps.Taps.{blended}
use Rattle.predict.specs.planar_dc.Stores.{by_way}
use Rattle.predict.proofs.planar_dc.edge_row.Goals as goal

pub returns : goal.returns
returns c = let a = c.args in
    c.put_row.ensures
    ∙ by_way (λ (x : ℕ). blended (get_or a.above.now x 0) a.dc) _ (replicate 32 0) a.pred.now 0 0 a.n (search rules) c.blend_row.ensures
