-- Document 01, 'The program': the lines that are printed, and text laid over a buffer. Assumes nothing.
use Rattle.std.specs.Prelude.{ℕ, zero, suc, ◌+◌, ◌/◌, ◌%◌, Bool, cond, List, [], ◌∷◌, ◌++◌, ltb, length, take, drop}
use Rattle.plan.specs.declared.tiling.Block.{Block}

-- the digits of a number below 10 ^ (k + 1), with no zeros in front
unfoldable pub spell : ℕ → ℕ → List ℕ
spell zero n = (48 + n) ∷ []
spell (suc k) n = cond (ltb n 10) ((48 + n) ∷ []) (spell k (n / 10) ++ (48 + n % 10) ∷ [])

-- a number of up to 64 bits in decimal, then the byte that ends it
abbrev pub number : ℕ → ℕ → List ℕ
number n after = spell 19 n ++ after ∷ []

-- a line for a block: row, column, side, mode, sum
abbrev pub block_line : Block → ℕ → List ℕ
block_line b sum = number b.row 32 ++ number b.col 32 ++ number b.side 32 ++ number b.mode 32 ++ number sum 10

-- `refused N B`
abbrev pub refusal : ℕ → ℕ → List ℕ
refusal n block = (114 ∷ 101 ∷ 102 ∷ 117 ∷ 115 ∷ 101 ∷ 100 ∷ 32 ∷ []) ++ number n 32 ++ number block 10

-- `end COUNT same` or `end COUNT differs`
abbrev pub ending : ℕ → Bool → List ℕ
ending count same =
    (101 ∷ 110 ∷ 100 ∷ 32 ∷ []) ++ number count 32
    ++ cond same (115 ∷ 97 ∷ 109 ∷ 101 ∷ 10 ∷ []) (100 ∷ 105 ∷ 102 ∷ 102 ∷ 101 ∷ 114 ∷ 115 ∷ 10 ∷ [])

-- d with the text s in place of its bytes from `at` on
unfoldable pub laid : ℕ → List ℕ → List ℕ → List ℕ
laid at s d = take at d ++ s ++ drop (at + length s) d
