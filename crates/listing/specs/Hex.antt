-- Numbers in hex: a digit, and words of eight digits, the first the highest. Assumes nothing.
use Rattle.std.specs.Prelude.{cond, ◌&&◌, List, ℕ, ◌+◌, ◌-◌, ◌*◌, leb, get_or}

-- 0 to 9 and a to f; any other byte is 0
abbrev pub hex_digit : ℕ → ℕ
hex_digit b = cond (leb 48 b && leb b 57) (b - 48) (cond (leb 97 b && leb b 102) (b - 87) 0)

-- the digit at place i of a line; past its end it is 0
abbrev pub digit_at : List ℕ → ℕ → ℕ
digit_at line i = hex_digit (get_or line i 0)

-- two, four and eight digits from place i on
abbrev pub octet_at : List ℕ → ℕ → ℕ
octet_at line i = 16 * digit_at line i + digit_at line (i + 1)

abbrev pub half_at : List ℕ → ℕ → ℕ
half_at line i = 256 * octet_at line i + octet_at line (i + 2)

abbrev pub word_at : List ℕ → ℕ → ℕ
word_at line i = 65536 * half_at line i + half_at line (i + 4)
