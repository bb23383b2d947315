-- `planar_dc::planar_sample` meets its contract. One planar sample: both sums by `mix`, then the mean, since the weights make 2n.
use Prim.Native.Nat.{◌+◌, ◌*◌, ◌≤◌}
use mathlib.Core.Path.{◌∙◌}
use native.Mathlib.Omega.{arith}
use Rattle.samples.specs.taps.Laws.{mean_is}
use Rattle.predict.specs.planar_dc.Flat.{planar_sample}
use Rattle.predict.proofs.planar_dc.planar_sample.Goals as goal

pub returns : goal.returns
unfolding planar_sample
returns c = let h = c.mix-h in
    let v = c.mix-v in
    let l : h.result + v.result ≤ 131070 * c.args.n = omega arith in
    c.mean.ensures ∙ mean_is c.args.n (h.result + v.result) c.requires.0 l ∙ rw (h.ensures.0, v.ensures.0)
