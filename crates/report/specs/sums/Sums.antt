-- Document 01, 'The program': sums of absolute residuals, and planes compared. Assumes nothing.
use Rattle.std.specs.Prelude.{ℕ, zero, suc, ◌+◌, Bool, true, ◌&&◌, List, eqb, ℤ, pos, nat_abs, get_or}

-- whether the first k entries are the same
unfoldable pub agree : List ℕ → List ℕ → ℕ → Bool
agree a b zero = true
agree a b (suc k) = agree a b k && eqb (get_or a k 0) (get_or b k 0)

-- the sum of k absolute residuals from `at` on
unfoldable pub absolutes : List ℤ → ℕ → ℕ → ℕ
absolutes v at zero = 0
absolutes v at (suc k) = absolutes v at k + nat_abs (get_or v (at + k) (pos 0))
