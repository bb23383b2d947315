-- The fewest digits, as the kit counts them, are those that `spell` gives. Rests on the powers of ten.
use Rattle.std.specs.Prelude.{◌≡◌, refl, Bool, true, false, cond, List, [], ◌∷◌, ◌++◌, ℕ, zero, suc, ◌+◌, ◌-◌, ◌/◌, ◌%◌, ◌^◌, ◌≤◌, ◌<◌, ltb}
use Rattle.std.proofs.Common.{ap, ap₂, ◌∙◌, subst, arith, lt-ltb, ltb-true, ltb-false}
use Rattle.io.specs.Digits.{last_digits, hex_digit_ascii, IsDigitCount}
use Rattle.report.specs.text.Text.{spell}
use Rattle.report.specs.text.Laid.{ten, ten_pos}

digit : (d : ℕ) → d < 10 → hex_digit_ascii d ≡ 48 + d
digit d h = rw (lt-ltb d 10 h)

fewest : (n k : ℕ) → IsDigitCount 10 1 n (suc k) → 0 < k → 10 ^ k ≤ n
fewest n k e h = let q : suc k - 1 ≡ k = omega arith in subst (λ (m : ℕ). 10 ^ m ≤ n) q (e.2 (omega arith))

one_digit : (n k : ℕ) → n < 10 → IsDigitCount 10 1 n k → last_digits 10 k n ≡ (48 + n) ∷ []
one_digit n zero h e = absurd (omega arith)
one_digit n (suc zero) h e = let m : n % 10 ≡ n = omega arith in ap (λ (d : ℕ). d ∷ [])
    (digit (n % 10) (omega arith) ∙ ap (λ (d : ℕ). 48 + d) m)
one_digit n (suc (suc k)) h e =
    let l = fewest n (suc k) e (omega arith) in
    let p : 0 < 10 ^ k = ten_pos k in
    absurd (omega (arith, ten k))

-- a digit more; the digits before it are known
digit_more : (f n : ℕ) → ((k : ℕ) → n / 10 < 10 ^ suc f → IsDigitCount 10 1 (n / 10) k → last_digits 10 k (n / 10) ≡ spell f (n / 10))
    → n < 10 ^ suc (suc f)
    → (t : Bool) → ltb n 10 ≡ t → (k : ℕ) → IsDigitCount 10 1 n k → last_digits 10 k n
    ≡ cond t ((48 + n) ∷ []) (spell f (n / 10) ++ (48 + n % 10) ∷ [])
digit_more f n before h true t k e = one_digit n k (ltb-true n 10 t) e
digit_more f n before h false t zero e = absurd (omega arith)
digit_more f n before h false t (suc zero) e = let l = ltb-false n 10 t in absurd (omega (arith, ten 0))
digit_more f n before h false t (suc (suc j)) e =
    let l = fewest n (suc j) e (omega arith) in
    let u : n / 10 < 10 ^ suc f = omega (arith, ten (suc f)) in
    let v : n / 10 < 10 ^ suc j = omega (arith, e.1, ten (suc j)) in
    let w : 10 ^ (suc j - 1) ≤ n / 10 = let q : j ≡ suc j - 1 = omega arith in subst (λ (m : ℕ). 10 ^ m ≤ n / 10) q
    (omega (arith, ten j)) in
    ap₂ (λ (x : List ℕ) (d : ℕ). x ++ d ∷ []) (before (suc j) u (omega arith, v, λ z. w)) (digit (n % 10) (omega arith))

pub spelled : (f n k : ℕ) → n < 10 ^ suc f → IsDigitCount 10 1 n k → last_digits 10 k n ≡ spell f n
unfolding spell
spelled zero n k h e = one_digit n k (omega (arith, ten 0)) e
spelled (suc f) n k h e = digit_more f n (λ j. spelled f (n / 10) j) h (ltb n 10) refl k e

-- a number of 64 bits
pub number_is : (n k : ℕ) (s : List ℕ) → n < 2 ^ 64 → IsDigitCount 10 1 n k → s ≡ last_digits 10 k n → s ≡ spell 19 n
number_is n k s h e q = q ∙ spelled 19 n k (omega arith) e
