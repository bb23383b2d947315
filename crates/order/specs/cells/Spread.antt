-- 6.5.2's inner sum, one coordinate at a time: the bits of a number, each at twice its place. Assumes nothing.
use Rattle.std.specs.Prelude.{◌≡◌, refl, ℕ, zero, suc, ◌+◌, ◌*◌, ◌/◌, ◌%◌, ◌^◌}
use Rattle.std.proofs.Common.{arith}
use Rattle.h265.specs.Order.{interleaved}

unfoldable pub spread : ℕ → ℕ → ℕ
spread zero v = 0
spread (suc i) v = spread i v + v / 2 ^ i % 2 * 4 ^ i

pub interleaved_spread : (k x y : ℕ) → interleaved k x y ≡ spread k x + 2 * spread k y
unfolding interleaved spread
interleaved_spread zero x y = refl
interleaved_spread (suc k) x y = omega (arith, interleaved_spread k x y)
