-- `planar_dc::planar_line` meets its contract. A row by way of a local array, which changes nothing (`by_way`).
use Prim.Native.Nat.{ℕ}
use mathlib.Core.Path.{◌∙◌}
use lib.ListN.{get_or, replicate}
use borrow.Author.Rules.{rules}
use Rattle.predict.specs.planar_dc.Flat.{planar_sample}
use Rattle.predict.specs.planar_dc.Stores.{by_way}
use Rattle.predict.proofs.planar_dc.planar_line.Goals as goal

pub returns : goal.returns
returns c = let a = c.args in
    c.put_row.ensures
    ∙ by_way (λ (x : ℕ). planar_sample a.n a.row x a.left a.top_right (get_or a.above.now x 0) a.bottom_left) _ (replicate 32 0) a.pred.now 0 a.at a.n (search rules) c.planar_row.ensures
