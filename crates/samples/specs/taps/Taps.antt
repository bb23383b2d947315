-- One sample of a prediction over the samples that it mixes, H.265 8.4.4.2.4 to 8.4.4.2.6. Assumes nothing.
use Rattle.std.specs.Prelude.{ℕ, ◌+◌, ◌-◌, ◌*◌, ◌/◌, ◌%◌, ◌^◌, cond, pos, ◌+ℤ◌, ◌-ℤ◌}
use Rattle.std.specs.Int.Signed.{shr_z}
use Rattle.h265.specs.Notation.{clip_to}
use Rattle.domain.specs.Domain.{size_ok}

-- 32 - f parts of x and f of y
unfoldable pub interp_of : ℕ → ℕ → ℕ → ℕ
interp_of f x y = ((32 - f) * x + f * y + 16) / 32

-- 2n samples' sum over 2n, rounded, in numbers of 32 bits and 16: 0 where n is no side
unfoldable pub mean_of : ℕ → ℕ → ℕ
mean_of n all = cond (size_ok n) (((all + n) % 2 ^ 32) / (2 * n) % 65536) 0

-- an edge sample: a, and half of l less c, brought to 0 .. m
abbrev pub edge_of : ℕ → ℕ → ℕ → ℕ → ℕ
edge_of m a l c = clip_to m (pos a +ℤ shr_z (pos l -ℤ pos c) 2)

-- the DC edge: a neighbour r and the value v, and at the corner both neighbours
abbrev pub blended : ℕ → ℕ → ℕ
blended r v = (r + 3 * v + 2) / 4

abbrev pub cornered : ℕ → ℕ → ℕ → ℕ
cornered l a v = (l + 2 * v + a + 2) / 4
