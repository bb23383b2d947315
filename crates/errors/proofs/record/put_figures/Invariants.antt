use mathlib.Core.Path.{◌≡◌}
use Prim.Native.Nat.{ℕ, ◌*◌}
use lib.ListN.{get_or}
use Rattle.laws.specs.Fill.{run}
use Rattle.laws.specs.Bytes.{byte_of}
use Rattle.errors.proofs.record.put_figures.Given as goal

abbrev pub invariant-loop-m : goal.invariant-loop-m
invariant-loop-m l = l.b ≡ run (byte_of 8 (λ (k : ℕ). get_or l.fn.figures k 0)) l.at (l.m * 8) l.initial.b
