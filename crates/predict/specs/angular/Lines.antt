-- What the code's rows hold: an angle's references as a row of entries. Assumes nothing.
use Rattle.std.specs.Prelude.{◌≡◌, cond, List, ℕ, ◌+◌, ◌-◌, ◌*◌, ◌≤◌, ◌<◌, leb, get_or}
use Rattle.std.proofs.Common.{sym, ap, ◌∙◌, mul-le-mul_left, add-mul, arith}
use Rattle.predict.specs.angles.Starts.{line_start, fraction_of, first_of}
use Rattle.samples.specs.taps.Taps.{interp_of}
use Rattle.predict.specs.angular.Unsigned.{ref_start}

-- a sample of a line, between two references
abbrev pub line_at : List ℕ → ℕ → ℕ → ℕ → ℕ → ℕ
line_at refs b e r c = interp_of (fraction_of e r) (get_or refs (line_start b e r + c) 0) (get_or refs (line_start b e r + c + 1) 0)

-- a sample of a line counted from line first on
abbrev pub line_from : List ℕ → ℕ → ℕ → ℕ → ℕ → ℕ → ℕ
line_from refs b e first r c = line_at refs b e (first + r) c

-- a negative angle's rows start at it or later, and at the corner or before
pub first_le : (e n r : ℕ) → e < 32 → r < n → (first_of e n ≤ ref_start e r) × (ref_start e r ≤ 64)
first_le e n r h l =
    let m = n - (r + 1) in
    let s : r + 1 + m ≡ n = omega arith in
    let x : n * e ≡ (r + 1) * e + m * e = ap (λ (i : ℕ). i * e) (sym s) ∙ add-mul (r + 1) m e in
    let y : m * e ≤ m * 32 = mul-le-mul_left m (omega arith) in
    let z : (r + 1) * e ≤ (r + 1) * 31 = mul-le-mul_left (r + 1) (omega arith) in
    (omega arith, omega arith)

-- how many references from the main row's first one on a block of side n may read: n where the angle is negative, else 2n
unfoldable pub reach_of : ℕ → ℕ → ℕ
reach_of e n = cond (leb 32 e) (2 * n) n

-- an angle whose rows of n stay within r references, for a block that p samples hold
pub record LineReads (b e n r p : ℕ) : Type 0 where
  pub angle : e ≤ 64
  pub base : 32 ≤ b + e
  pub near : b ≤ 128
  pub size : n ≤ 32
  pub refs : b + reach_of e n ≤ r
  pub room : n * n ≤ p
