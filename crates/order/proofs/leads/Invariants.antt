use Prim.Native.Nat.{ℕ, ◌+◌, ◌*◌}
use lib.Dec.{ltb}
use Rattle.order.specs.Edges.{number_by}
use Rattle.order.specs.Walk.{Walked}
use Rattle.order.proofs.leads.Given as goal

abbrev pub invariant-loop-i : goal.invariant-loop-i
invariant-loop-i l = Walked (λ (j : ℕ). ltb (number_by l.s (l.row + j * l.down) (l.col + j * l.across)) l.limit) l.group l.most l.i
