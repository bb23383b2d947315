-- Little-endian numbers in a list of bytes, for any width in bytes. Assumes nothing.
use Rattle.std.specs.Prelude.{◌≡◌, List, ℕ, zero, suc, ◌+◌, ◌*◌, ◌/◌, ◌%◌, ◌^◌, ◌<◌, get_or}
use Rattle.std.proofs.Math.Arith.{digits_div, digits_mod}

-- the number whose w bytes stand from place i on, the lowest first
unfoldable pub le_at : ℕ → List ℕ → ℕ → ℕ
le_at zero b i = 0
le_at (suc w) b i = get_or b i 0 + 256 * le_at w b (i + 1)

-- byte j of the numbers f 0, f 1, .. of w bytes each
abbrev pub byte_of : ℕ → (ℕ → ℕ) → ℕ → ℕ
byte_of w f j = f (j / w) / 256 ^ (j % w) % 256

-- byte k of number i
pub byte_at : (w : ℕ) (f : ℕ → ℕ) (i k : ℕ) → k < w → f i / 256 ^ k % 256 ≡ byte_of w f (i * w + k)
byte_at w f i k h = rw (digits_div i h, digits_mod i h)
