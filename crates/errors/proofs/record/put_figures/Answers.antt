-- The figures one after the other. Assumes nothing.
use mathlib.Core.Path.{refl}
use Prim.Native.Nat.{ℕ}
use lib.ListN.{get_or}
use Rattle.laws.specs.FillLaws.{run_none}
use Rattle.errors.specs.RecordLaws.{figures_more}
use Rattle.errors.proofs.record.put_figures.Goals as goal

pub loop-m-init : goal.loop-m-init
loop-m-init c = run_none _ _ _

pub loop-m-preserved : goal.loop-m-preserved
loop-m-preserved c = let a = c.args in
    let l = c.loop-m in
    figures_more (λ (k : ℕ). get_or a.figures k 0) a.at l.m a.b.now l.invariant c.put_number.ensures refl
