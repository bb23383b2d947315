-- Documents 01 and 02, module 7: the range of a residual. Assumes nothing.
use Rattle.std.specs.Prelude.{ℕ, Bool, ℤ, nat_le, unsigned_abs}

-- a residual's size is no more than a limit
abbrev pub residual_within : ℕ → ℤ → Bool
residual_within limit r = nat_le (unsigned_abs r) limit

-- residuals run from -65535 to 65535
abbrev pub residual_ok : ℤ → Bool
residual_ok r = residual_within 65535 r
