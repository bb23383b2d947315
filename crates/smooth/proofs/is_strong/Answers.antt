-- `smooth::is_strong` meets its contract. The code is the definition, with both rows' tests put in. Assumes nothing.
use mathlib.Core.Path.{◌≡◌, refl}
use mathlib.Core.Bool.{true}
use Prim.Native.Nat.{ℕ}
use Rattle.h265.specs.Filtering.{bi_int_flag}
use Rattle.domain.specs.Domain.{depth_ok}
use Rattle.domain.specs.Facts.{at_depth}
use Rattle.smooth.proofs.is_strong.Goals as goal

pub returns : goal.returns
unfolding bi_int_flag
returns c = let e : depth_ok c.args.bits ≡ true = at_depth (λ (k : ℕ). depth_ok k ≡ true) refl refl refl c.args.bits c.requires.0 in
    rw (c.is_straight-down.ensures, c.is_straight-up.ensures, e)
