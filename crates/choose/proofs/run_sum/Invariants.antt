use mathlib.Core.Path.{◌≡◌}
use Prim.Native.Nat.{ℕ, ◌+◌, ◌*◌, ◌≤◌}
use lib.ListN.{get_or}
use Rattle.laws.specs.Sum.{total}
use Rattle.choose.specs.Choose.{apart}
use Rattle.choose.proofs.run_sum.Given as goal

abbrev pub invariant-loop-i : goal.invariant-loop-i
invariant-loop-i l = (l.sum ≤ l.i * 65535)
    × (l.sum ≡ total (λ (k : ℕ). apart (get_or l.source (l.from + k) 0) (get_or l.pred k 0)) l.i)
