-- A residual that fits an i16, told by what is above its 16 low bits once 32768 is added. Rests on the range of a residual.
use Rattle.std.specs.Prelude.{◌≡◌, ℕ, suc, ◌+◌, ◌/◌, ◌%◌, ◌^◌, true, ℤ, pos, negsuc, FitsSigned}
use Rattle.std.proofs.Common.{arith, le-leb}
use Rattle.std.specs.Int.{w32}
use Rattle.samples.specs.deltas.Deltas.{residual_ok}
use Rattle.samples.specs.deltas.Raised.{raise}

-- what r + 32768 has above its 16 low bits, of 32
unfoldable pub high_part : ℤ → ℕ
high_part r = ((raise r + 2147516416) % 2 ^ 32) / 65536

pub narrow_in_range : (z : ℤ) → FitsSigned w32 z → high_part z ≡ 0 → residual_ok z ≡ true
unfolding high_part
narrow_in_range (pos k) f e = let s = f.sfits in le-leb k 65535 (omega arith)
narrow_in_range (negsuc k) f e = let s = f.sfits in le-leb (suc k) 65535 (omega arith)
