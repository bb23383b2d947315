-- Document 01, 'use from C': samples, residuals and answers as bytes, the lowest byte first. Assumes nothing.
use Rattle.std.specs.Prelude.{ℕ, ◌+◌, ◌*◌, ◌/◌, ◌%◌, List, [], ◌∷◌, ◌++◌, ℤ, drop}
use Rattle.std.specs.Int.{w32}
use Rattle.std.proofs.Common.{to_z}

-- the number of two bytes, and of four
abbrev pub le2 : ℕ → ℕ → ℕ
le2 a b = a + 256 * b

abbrev pub le4 : ℕ → ℕ → ℕ → ℕ → ℕ
le4 a b c d = a + 256 * b + 65536 * c + 16777216 * d

-- a residual: the number of four bytes read as two's complement
abbrev pub residual4 : ℕ → ℕ → ℕ → ℕ → ℤ
residual4 a b c d = to_z w32 (le4 a b c d)

-- byte 1, 2 and 3 of a number; byte 0 is its remainder by 256
abbrev pub byte1 : ℕ → ℕ
byte1 v = v / 256 % 256

abbrev pub byte2 : ℕ → ℕ
byte2 v = v / 65536 % 256

abbrev pub byte3 : ℕ → ℕ
byte3 v = v / 16777216 % 256

-- the samples that bytes spell, two each; a byte left over spells none
unfoldable pub samples_of : List ℕ → List ℕ
samples_of [] = []
samples_of (a ∷ []) = []
samples_of (a ∷ b ∷ l) = le2 a b ∷ samples_of l

-- samples as bytes
unfoldable pub bytes_of : List ℕ → List ℕ
bytes_of [] = []
bytes_of (v ∷ l) = v % 256 ∷ byte1 v ∷ bytes_of l

-- the residuals that bytes spell, four each; bytes left over spell none
unfoldable pub residuals_of : List ℕ → List ℤ
residuals_of [] = []
residuals_of (a ∷ []) = []
residuals_of (a ∷ b ∷ []) = []
residuals_of (a ∷ b ∷ c ∷ []) = []
residuals_of (a ∷ b ∷ c ∷ d ∷ l) = residual4 a b c d ∷ residuals_of l

-- a number as four bytes
abbrev pub word_of : ℕ → List ℕ
word_of v = v % 256 ∷ byte1 v ∷ byte2 v ∷ byte3 v ∷ []

-- a buffer of at least eight bytes after two numbers were written into it; the bytes beyond stay
unfoldable pub pair_into : ℕ → ℕ → List ℕ → List ℕ
pair_into v w d = word_of v ++ word_of w ++ drop 8 d
