-- The notation of H.265, clauses 5 and 8.4.4.2: shifts that round down, Log2, Clip1, and the neighbours p[x][y] of a block.
-- Assumes nothing.
use Rattle.std.specs.Prelude.{ℕ, zero, suc, ◌-◌, ◌/◌, ◌%◌, ◌^◌, min, cond, List, ltb, get_or, ℤ, pos, negsuc}
use Rattle.std.specs.Int.Signed.{shr_z}

-- −1, as it stands in p[−1][y]
abbrev pub −1 : ℤ
−1 = negsuc 0

-- the neighbours of a block: p[−1][−1], p[x][−1] and p[−1][y]
pub record Neighbours : Type 0 where
  pub corner : ℕ
  pub above : ℕ → ℕ
  pub left : ℕ → ℕ

-- p[x][y]: x counts columns and y rows from the block's first sample; inside the block there is no neighbour
abbrev pub near : Neighbours → ℤ → ℤ → ℕ
near nb (negsuc x) (negsuc y) = nb.corner
near nb (pos x) (negsuc y) = nb.above x
near nb (negsuc x) (pos y) = nb.left y
near nb (pos x) (pos y) = 0

-- written as in the standard, where p is `near` of a block's neighbours
infixl 90 ◌⟦◌⟧⟦◌⟧
abbrev pub ◌⟦◌⟧⟦◌⟧ : (ℤ → ℤ → ℕ) → ℤ → ℤ → ℕ
p ⟦ x ⟧⟦ y ⟧ = p x y

-- the neighbours that a corner and two rows of samples give; past a row's end is 0
abbrev pub from_rows : ℕ → List ℕ → List ℕ → Neighbours
from_rows corner above left = record { corner = corner; above = λ x. get_or above x 0; left = λ y. get_or left y 0 }

-- z >> k of a whole number, and of a natural one
infixl 5 ◌>>◌
abbrev pub ◌>>◌ : ℤ → ℕ → ℤ
z >> k = shr_z z (2 ^ k)

infixl 5 ◌>>ℕ◌
abbrev pub ◌>>ℕ◌ : ℕ → ℕ → ℕ
a >>ℕ k = a / 2 ^ k

-- z & 31, of two's complement
abbrev pub low5 : ℤ → ℕ
low5 (pos a) = a % 32
low5 (negsuc a) = 31 - a % 32

-- how often x can be halved before it is below 2, counted up to most times
unfoldable pub halvings : ℕ → ℕ → ℕ
halvings zero x = 0
halvings (suc most) x = cond (ltb x 2) 0 (suc (halvings most (x / 2)))

-- Log2( x ) of a power of two
abbrev pub log2 : ℕ → ℕ
log2 x = halvings x x

-- Clip3( 0, m, z ), and Clip1 for a bit depth
abbrev pub clip_to : ℕ → ℤ → ℕ
clip_to m (pos k) = min k m
clip_to m (negsuc k) = 0

abbrev pub clip1 : ℕ → ℤ → ℕ
clip1 bits z = clip_to (2 ^ bits - 1) z
