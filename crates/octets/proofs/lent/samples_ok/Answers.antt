-- The loop's flag says whether the samples passed are in range. Assumes nothing.
use Rattle.std.proofs.Common.{ℕ, leb, ap, arith}
use Rattle.laws.specs.Every.{pass_none, pass_more, pass_done}
use Rattle.octets.proofs.lent.samples_ok.Goals as goal

pub loop-i-init : goal.loop-i-init
loop-i-init g c = pass_none _ 0 _

pub loop-i-preserved : goal.loop-i-preserved
loop-i-preserved g c = let a = c.args in
    pass_more (λ (v : ℕ). leb v a.largest) 0 _ _ c.loop-i.invariant (ap (λ (v : ℕ). leb v a.largest) c.sample.ensures)

pub returns : goal.returns
returns g c = let a = c.args in
    pass_done (λ (v : ℕ). leb v a.largest) 0 _ _ (omega arith) (omega arith) c.loop-i.invariant
