use mathlib.Core.Path.{◌≡◌}
use Prim.Native.Nat.{◌-◌, ◌*◌, ◌/◌, ◌≤◌}
use Rattle.predict.specs.angular.Parts.{laid_at}
use Rattle.choose.specs.Early.{tail, row_apart}
use Rattle.choose.proofs.Trial.upward.Given as goal

abbrev pub invariant-loop-eight : goal.invariant-loop-eight
invariant-loop-eight l = let k = l.self.block in
    (l.sum ≤ (k.n / 8 - l.eight) * 16776960)
    × (l.sum ≡ tail (row_apart k.n k.samples.now (laid_at l.self.border.above.now l.refs (l.self.mode - 18))) k.n (8 * l.eight))
