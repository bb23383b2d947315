use mathlib.Core.Path.{◌≡◌}
use Prim.Native.Nat.{ℕ, ◌+◌}
use lib.ListN.{get_or}
use Rattle.laws.specs.Fill.{fill}
use Rattle.errors.proofs.figures_added.Given as goal

abbrev pub invariant-loop-m : goal.invariant-loop-m
invariant-loop-m l = l.out ≡ fill (λ (m : ℕ). get_or l.a m 0 + get_or l.b m 0) l.m l.a
