-- Little-endian numbers of two bytes and of four, from their parts and as the kit reads them, and the area of two sides of 16 bits.
-- Assumes nothing.
use Rattle.std.specs.Prelude.{◌≡◌, List, [], ◌∷◌, ℕ, ◌+◌, ◌*◌, ◌≤◌, ◌<◌, get_or}
use Rattle.std.specs.Int.{w16, w32, from_le_bytes}
use Rattle.std.proofs.Common.{ap, mul-le-mul, arith}
use Rattle.laws.specs.Bytes.{le_at}

-- two bytes, and two numbers of two bytes
pub le_bytes : (b : List ℕ) (i : ℕ) {x y : ℕ} → x ≡ get_or b i 0 → y ≡ get_or b (i + 1) 0 → x + 256 * y ≡ le_at 2 b i
unfolding le_at
le_bytes b i p q = omega arith

pub le_halves : (b : List ℕ) (i : ℕ) {x y : ℕ} → x ≡ le_at 2 b i → y ≡ le_at 2 b (i + 2) → x + 65536 * y ≡ le_at 4 b i
unfolding le_at
le_halves b i p q =
    let e : i + 1 + 1 ≡ i + 2 = omega arith in
    let f : le_at 2 b (i + 1 + 1) ≡ le_at 2 b (i + 2) = ap (le_at 2 b) e in
    omega (arith, f)

-- as the kit reads them
pub le_two : (b : List ℕ) (i : ℕ) → from_le_bytes w16 (get_or b i 0 ∷ get_or b (i + 1) 0 ∷ []) ≡ le_at 2 b i
unfolding le_at
le_two b i = omega arith

pub le_four : (b : List ℕ) (i : ℕ)
    → from_le_bytes w32 (get_or b i 0 ∷ get_or b (i + 1) 0 ∷ get_or b (i + 2) 0 ∷ get_or b (i + 3) 0 ∷ []) ≡ le_at 4 b i
unfolding le_at
le_four b i =
    let two : i + 1 + 1 ≡ i + 2 = omega arith in
    let three : i + 1 + 1 + 1 ≡ i + 3 = omega arith in
    omega (arith, ap (λ (k : ℕ). get_or b k 0) two, ap (λ (k : ℕ). get_or b k 0) three)

pub sides_small : (h w : ℕ) → h < 65536 → w < 65536 → h * w < 4294967296
sides_small h w p q = let a : h ≤ 65535 = omega arith in let b : w ≤ 65535 = omega arith in let m = mul-le-mul a b in omega (arith, m)
