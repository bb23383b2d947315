-- H.265 8.4.4.2.6, iIdx and the first reference, with no number below 0: an angle stands as the angle plus 32. Assumes nothing.
use Rattle.std.specs.Prelude.{ℕ, ◌+◌, ◌-◌, ◌*◌, ◌/◌, ◌%◌, ◌≤◌}
use Rattle.std.proofs.Common.{mul-le-mul}

-- where line r of an angle starts in a row of references whose entry b is ref[1]
abbrev pub line_start : ℕ → ℕ → ℕ → ℕ
line_start b e r = b + (r + 1) * e / 32 - (r + 1)

-- and its fraction
abbrev pub fraction_of : ℕ → ℕ → ℕ
fraction_of e r = (r + 1) * e % 32

-- the first reference that a negative angle uses
abbrev pub first_of : ℕ → ℕ → ℕ
first_of e n = 65 + n * e / 32 - n

-- numbers of 32 bits have a product of 64, though one be a step beyond
pub product : (k e : ℕ) → k ≤ 4294967296 → e ≤ 4294967295 → k * e ≤ 4294967296 * 4294967295
product k e l m = mul-le-mul l m
