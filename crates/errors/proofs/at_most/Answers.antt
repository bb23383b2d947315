-- The flag says whether the figures passed are within the limit. Assumes nothing.
use Prim.Native.Nat.{ℕ}
use native.Mathlib.Omega.{arith}
use lib.Dec.{leb}
use Rattle.laws.specs.Every.{pass_done}
use Rattle.errors.proofs.at_most.Goals as goal

pub returns : goal.returns
returns c = let l = c.loop-figure in
    pass_done (λ (v : ℕ). leb v c.args.most) 0 _ l.figure-index (omega (arith, c.well_formed))
    (omega (arith, c.loop-figure-test.false, c.well_formed)) l.invariant
