use mathlib.Core.Path.{◌≡◌}
use Prim.Native.Nat.{ℕ, ◌/◌, ◌%◌, ◌^◌}
use Rattle.laws.specs.Fill.{run}
use Rattle.errors.proofs.record.put_number.Given as goal

abbrev pub invariant-loop-j : goal.invariant-loop-j
invariant-loop-j l = (l.rest ≡ l.v / 256 ^ l.j) × (l.b ≡ run (λ (i : ℕ). l.v / 256 ^ i % 256) l.at l.j l.initial.b)
