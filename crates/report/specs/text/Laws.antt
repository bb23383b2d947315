-- The kit's decimal digits are those of `spell`. Rests on the kit's laws of decimal digits.
use Rattle.std.specs.Prelude.{◌≡◌, refl, List, [], ◌∷◌, ◌++◌, ℕ, zero, suc, ◌+◌, ◌/◌, ◌%◌, ◌^◌, ◌≤◌, ◌<◌, decimal}
use Rattle.std.proofs.Common.{ap, arith, lt-ltb}
use Rattle.std.proofs.Math.Nat.{pow-succ'}
use Rattle.std.proofs.lemmas.Bool.{le-ltb}
use Rattle.std.proofs.lemmas.Fmt.{decimal_by_steps}
use Rattle.report.specs.text.Text.{spell}

-- what `spell` gives of a number that it has room for
abbrev Spelled : ℕ → List ℕ → Type 0
Spelled n digits = (k : ℕ) → n < 10 ^ suc k → digits ≡ spell k n

one_digit : (n : ℕ) → n < 10 → Spelled n ((48 + n) ∷ [])
unfolding spell
one_digit n h zero l = refl
one_digit n h (suc k) l = rw (lt-ltb n 10 h)

digit_more : (n : ℕ) (digits : List ℕ) → 10 ≤ n → Spelled (n / 10) digits → Spelled n (digits ++ (48 + n % 10) ∷ [])
unfolding spell
digit_more n digits h before zero l = absurd (omega (arith, pow-succ' 10 0))
digit_more n digits h before (suc k) l =
    let few : n / 10 < 10 ^ suc k = omega (arith, pow-succ' 10 (suc k)) in
    rw (le-ltb n 10 h) (ap (λ (d : List ℕ). d ++ (48 + n % 10) ∷ []) (before k few))

pub spelled : (n : ℕ) → n < 2 ^ 64 → decimal n ≡ spell 19 n
spelled n h = decimal_by_steps Spelled one_digit digit_more n h 19 (omega arith)
