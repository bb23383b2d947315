-- `choose::Trial::tried` meets its contract. The sum of the block that was predicted is that of the mode's samples. Rests on both calls.
use mathlib.Core.Path.{◌∙◌, ap}
use mathlib.Core.Bool.{true}
use mathlib.Core.List.{List}
use Prim.Native.Nat.{ℕ}
use Rattle.predict.specs.modes.Modes.{predicted_by_mode}
use Rattle.choose.specs.Choose.{differences, source_at}
use Rattle.choose.specs.Given.{neighbours}
use Rattle.choose.specs.Sums.{made_sum}
use Rattle.choose.proofs.Trial.tried.Goals as goal

pub returns : goal.returns
returns c = let a = c.args in
    let k = a.self.now.block in
    let source = source_at k.n k.samples.now in
    let samples = predicted_by_mode k.bits true true k.n a.self.now.mode (neighbours a.self.now.border) in
    c.block_sum.ensures
    ∙ ap (λ (p : List ℕ). differences source (source_at k.n p) k.n k.n) c.predict.ensures
    ∙ made_sum k.n source samples a.pred.now c.requires
