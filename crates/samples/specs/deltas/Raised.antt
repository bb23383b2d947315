-- A residual raised by 2^31, as the machine has it, and its range told by that. Rests on the range of a residual.
use Rattle.std.specs.Prelude.{◌≡◌, ℕ, suc, ◌+◌, ◌-◌, ◌*◌, ◌%◌, ◌^◌, ◌<◌, ◌≤◌, ℤ, pos, negsuc, ◌+ℤ◌, FitsSigned, nat_le, unsigned_abs, refl}
use Rattle.std.proofs.Common.{sym, ◌∙◌, arith, le-leb, Fits, to_z, of_z, to_z-of_z}
use Rattle.std.proofs.Math.Decide.{dec_le}
use Rattle.std.proofs.lemmas.Bool.{lt-leb}
use Rattle.std.specs.Int.Signed.{mag}
use Rattle.std.specs.Int.{w32, w64}
use Rattle.laws.specs.Diff.{sub_pos}
use Rattle.samples.specs.deltas.Deltas.{residual_within}

-- a number raised by 2^31, after which no i32 is below 0
abbrev pub raise : ℤ → ℕ
raise (pos k) = k + 2147483648
raise (negsuc k) = 2147483648 - suc k

-- as the machine raises it, in 64 bits
raise_is : (z : ℤ) → mag z < 2147483648 → z +ℤ pos 2147483648 ≡ pos (raise z)
raise_is (pos k) h = refl
raise_is (negsuc k) h = sub_pos 2147483648 (suc k) h

pub raise_fits : (z : ℤ) → FitsSigned w32 z → Fits w32 (raise z)
raise_fits (pos k) f = let s = f.sfits in record { fits = omega arith }
raise_fits (negsuc k) f = let s = f.sfits in record { fits = omega arith }

module _ (z : ℤ) (f : FitsSigned w32 z) where
  pub wide_fits : FitsSigned w64 z
  wide_fits = let s = f.sfits in record { sfits = omega arith }

  pub sum_fits : FitsSigned w64 (z +ℤ pos 2147483648)
  sum_fits = rw (raise_is z f.sfits) (let s = (raise_fits z f).fits in record { sfits = omega arith })

  pub sum_gives : to_z w64 (of_z w64 (z +ℤ pos 2147483648)) ≡ pos (raise z)
  sum_gives = to_z-of_z {w = w64} sum_fits ∙ raise_is z f.sfits

-- no larger than a limit: raised by the limit, in 32 bits, it is no more than twice the limit
module _ (limit : ℕ) (h : limit < 65536) where
  abbrev lifted : ℤ → ℕ
  lifted z = (raise z + (2147483648 + limit)) % 2 ^ 32

  low : (z : ℤ) → FitsSigned w32 z → unsigned_abs z ≤ limit → lifted z ≤ 2 * limit
  low (pos k) f l = let s = f.sfits in omega arith
  low (negsuc k) f l = let s = f.sfits in omega arith

  high : (z : ℤ) → FitsSigned w32 z → limit < unsigned_abs z → 2 * limit < lifted z
  high (pos k) f l = let s = f.sfits in omega arith
  high (negsuc k) f l = let s = f.sfits in omega arith

  pub within_is : (z : ℤ) → FitsSigned w32 z → nat_le (lifted z) (2 * limit) ≡ residual_within limit z
  within_is z f = go (dec_le (unsigned_abs z) limit)
    where
      go : Dec (unsigned_abs z ≤ limit) → nat_le (lifted z) (2 * limit) ≡ residual_within limit z
      go (yes l) = le-leb (lifted z) (2 * limit) (low z f l) ∙ sym (le-leb (unsigned_abs z) limit l)
      go (no n) =
          let m : limit < unsigned_abs z = omega (arith, n) in
          lt-leb (lifted z) (2 * limit) (high z f m) ∙ sym (lt-leb (unsigned_abs z) limit m)
