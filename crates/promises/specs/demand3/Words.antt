-- Numbers and residuals as four bytes each and back, and the record in a result buffer. Rests on two's complement as the machine has it.
use Rattle.std.specs.Prelude.{◌≡◌, refl, true, List, [], ◌∷◌, ◌++◌, ℕ, zero, suc, ◌*◌, ◌/◌, ◌%◌, ◌≤◌, ◌<◌, ℤ, pos, negsuc, nat_abs, length}
use Rattle.std.proofs.Common.{sym, ap, ap₂, ◌∙◌, mod-eq_of_lt, arith, leb-true, le-leb, SFits, to_z, of_z, to_z-of_z}
use Rattle.std.proofs.Math.Nat.{div-div-eq-div-mul}
use Rattle.std.specs.Int.{w32}
use Rattle.std.proofs.Math.Facts.{Fits-of_z}
use Rattle.laws.specs.Choose.{if_yes, both_true}
use Rattle.laws.specs.Every.{every}
use Rattle.octets.specs.Bytes.{le4, byte1, byte2, byte3, residuals_of, word_of, pair_into}
use Rattle.octets.specs.Laws.{AreBytes}
use Rattle.samples.specs.deltas.Deltas.{residual_ok}
use Rattle.camera.specs.replay.Verdict.{answered}
use Rattle.promises.specs.demand3.Calls.{Each}
use Rattle.promises.specs.OnBytes.{record_in}

word_back : (n : ℕ) → n < 4294967296 → le4 (n % 256) (byte1 n) (byte2 n) (byte3 n) ≡ n
word_back n h =
    let two : n / 256 / 256 ≡ n / 65536 = div-div-eq-div-mul n 256 256 in
    let three : n / 65536 / 256 ≡ n / 16777216 = div-div-eq-div-mul n 65536 256 in
    let top : byte3 n ≡ n / 16777216 = mod-eq_of_lt (omega arith) in
    omega (arith, two, three, top)

-- residuals as bytes
unfoldable pub words_of : List ℤ → List ℕ
words_of [] = []
words_of (z ∷ v) = word_of (of_z w32 z) ++ words_of v

pub length_words : (v : List ℤ) → length (words_of v) ≡ 4 * length v
unfolding words_of
length_words [] = refl
length_words (z ∷ v) = omega (arith, length_words v)

pub words_are : (v : List ℤ) → AreBytes (words_of v)
unfolding words_of
words_are [] i = omega arith
words_are (z ∷ v) zero = omega arith
words_are (z ∷ v) (suc zero) = omega arith
words_are (z ∷ v) (suc (suc zero)) = omega arith
words_are (z ∷ v) (suc (suc (suc zero))) = omega arith
words_are (z ∷ v) (suc (suc (suc (suc i)))) = words_are v i

pub residuals_back : (v : List ℤ) → Each (SFits w32) v → residuals_of (words_of v) ≡ v
unfolding words_of residuals_of Each
residuals_back [] h = refl
residuals_back (z ∷ v) h =
    ap₂ (λ (a : ℤ) (l : List ℤ). a ∷ l)
    (ap (to_z w32) (word_back (of_z w32 z) (Fits-of_z {w = w32} {z = z} h.0).fits) ∙ to_z-of_z {w = w32} {z = z} h.0)
    (residuals_back v h.1)

-- residuals in replay's range
pub in_words : (v : List ℤ) → every residual_ok v ≡ true → Each (SFits w32) v
unfolding every Each
in_words [] e = tt
in_words (z ∷ v) e =
    let b = both_true (residual_ok z) (every residual_ok v) e in (one z (leb-true (nat_abs z) 65535 b.0), in_words v b.1)
  where
    one : (z : ℤ) → nat_abs z ≤ 65535 → SFits w32 z
    one (pos n) h = record { sfits = omega arith }
    one (negsuc n) h = record { sfits = omega arith }

-- what was written is read back
pub read_back : (block next : ℕ) (d : List ℕ) → 8 ≤ length d → next < 4294967296 → record_in (answered block next d) ≡ record { done = next }
unfolding answered pair_into
read_back block next d long small =
    ap record_in (sym (if_yes _ (pair_into block next d) d _ (le-leb 8 (length d) long) refl))
    ∙ ap (λ (k : ℕ). record { done = k }) (word_back next small)
