use mathlib.Core.Path.{◌≡◌}
use Prim.Native.Nat.{◌+◌, ◌-◌, ◌^◌, ◌<◌}
use Rattle.laws.specs.Bytes.{le_at}
use Rattle.errors.proofs.record.number_at.Given as goal

abbrev pub invariant-loop-i : goal.invariant-loop-i
invariant-loop-i l = (l.v ≡ le_at (l.w - l.i) l.b (l.at + l.i)) × (l.v < 256 ^ (l.w - l.i))
