-- 6.5.2's inner sum, one coordinate at a time: how many of a number's bits count, and the cell's number as the code makes it.
-- Assumes nothing.
use Rattle.std.specs.Prelude.{◌≡◌, ℕ, zero, suc, ◌+◌, ◌-◌, ◌*◌, ◌/◌, ◌%◌, ◌^◌, ◌≤◌, ◌<◌}
use Rattle.std.proofs.Math.Path.{refl}
use Rattle.std.proofs.Common.{sym, ap, ap₂, ◌∙◌, pow-suc, add-suc, add-zero, mod-lt, div-add-mod', div-le_self, mul-le-mul, arith, pow_pos}
use Rattle.std.proofs.Math.Nat.{div-eq_of_lt, pow-le-pow_right}
use Rattle.std.proofs.Math.Arith.{mod-mul}
use Rattle.h265.specs.Order.{interleaved, z_scan}
use Rattle.order.specs.cells.Spread.{spread, interleaved_spread}
use Rattle.order.specs.CellWalk.{half_half, quad}

-- bits above the number's own are 0
top : (j v : ℕ) → v < 2 ^ j → spread (suc j) v ≡ spread j v
unfolding spread
top j v l = rw (div-eq_of_lt l) (omega arith)

pub spread_more : (k v d : ℕ) → v < 2 ^ k → spread (k + d) v ≡ spread k v
spread_more k v zero h = ap (λ (j : ℕ). spread j v) (add-zero k)
spread_more k v (suc d) h =
    ap (λ (j : ℕ). spread j v) (add-suc k d) ∙ top (k + d) v (below d) ∙ spread_more k v d h
  where
    below : (e : ℕ) → v < 2 ^ (k + e)
    below zero = rw (add-zero k) h
    below (suc e) = rw (add-suc k e, pow-suc 2 (k + e)) (omega (arith, below e))

-- only the last k bits count
spread_half : (k v : ℕ) → spread (suc k) v ≡ 4 * spread k (v / 2) + v % 2
unfolding spread
spread_half zero v = omega arith
spread_half (suc k) v =
    let b : v / 2 ^ suc k % 2 * 4 ^ suc k ≡ 4 * (v / 2 / 2 ^ k % 2 * 4 ^ k) = quad (v / 2 ^ suc k % 2) k
    ∙ ap (λ (u : ℕ). 4 * (u % 2 * 4 ^ k)) (sym (half_half k v)) in
    omega (arith, spread_half k v)

half_mod : (k v : ℕ) → v % 2 ^ suc k / 2 ≡ v / 2 % 2 ^ k
half_mod k v =
    let m = mod-mul v {m = 2 ^ k} {c = 2} (pow_pos k) (omega arith) in
    let e : 2 ^ suc k ≡ 2 ^ k * 2 = omega arith in
    ap (λ (u : ℕ). v % u / 2) e ∙ omega (arith, m)

low_mod : (k v : ℕ) → v % 2 ^ suc k % 2 ≡ v % 2
low_mod k v =
    let m = mod-mul v {m = 2 ^ k} {c = 2} (pow_pos k) (omega arith) in
    let e : 2 ^ suc k ≡ 2 ^ k * 2 = omega arith in
    ap (λ (u : ℕ). v % u % 2) e ∙ omega (arith, m)

pub spread_mod : (k v : ℕ) → spread k (v % 2 ^ k) ≡ spread k v
spread_mod zero v = unfold spread in refl
spread_mod (suc k) v =
    let a = spread_half k (v % 2 ^ suc k) in
    let b = ap (spread k) (half_mod k v) ∙ spread_mod k (v / 2) in
    omega (arith, a, b, spread_half k v, low_mod k v)

-- four bits are enough for the cell's place in its CTU
pub spread_four : (k v : ℕ) → k ≤ 4 → spread 4 (v % 2 ^ k) ≡ spread k v
spread_four k v h =
    let e : k + (4 - k) ≡ 4 = omega arith in
    ap (λ (j : ℕ). spread j (v % 2 ^ k)) (sym e) ∙ spread_more k (v % 2 ^ k) (4 - k) (mod-lt v (pow_pos k)) ∙ spread_mod k v

pub square_pow : (k : ℕ) → 2 ^ k * 2 ^ k ≡ 4 ^ k
square_pow zero = refl
square_pow (suc k) = rw (pow-suc 2 k, pow-suc 4 k) (omega (arith, square_pow k))

-- what is left of a cell's coordinate in its CTU
pub rest : (k v cells : ℕ) → cells ≡ 2 ^ k → v - v / 2 ^ k * cells ≡ v % 2 ^ k
rest k v cells e = rw e (omega (arith, div-add-mod' v (2 ^ k)))

-- the number as the code makes it
pub number_is : (k w x y cells a b c : ℕ) → k ≤ 4 → cells ≡ 2 ^ k → a ≡ y % 2 ^ k → b ≡ x % 2 ^ k → c ≡ interleaved 4 b a
    → (y / 2 ^ k * w + x / 2 ^ k) * (cells * cells) + c ≡ z_scan k w x y
unfolding z_scan
number_is k w x y cells a b c h e p q r =
    let s : cells * cells ≡ 4 ^ k = rw e (square_pow k) in
    let m : interleaved 4 b a ≡ spread k x + 2 * spread k y = rw (p, q)
    (interleaved_spread 4 (x % 2 ^ k) (y % 2 ^ k) ∙ ap₂ (λ (u v : ℕ). u + 2 * v) (spread_four k x h) (spread_four k y h)) in
    rw (s, r, m, interleaved_spread k x y) (omega arith)

-- four bits make less than 256
pub four_low : (x y : ℕ) → interleaved 4 x y ≤ 255
unfolding interleaved
four_low x y = omega arith

-- and its bounds
pub record Room (k w x y cells : ℕ) : Type 0 where
  pub row : y / 2 ^ k * w ≤ 1048576
  pub square : cells * cells ≤ 256
  pub all : (y / 2 ^ k * w + x / 2 ^ k) * (cells * cells) ≤ 269484032

pub room : (k w x y cells : ℕ) → k ≤ 4 → cells ≡ 2 ^ k → y < 4096 → x < 4096 → w ≤ 256 → Room k w x y cells
room k w x y cells h e hy hx hw =
    let d : cells ≤ 16 = rw e (pow-le-pow_right (omega arith) h) in
    let a : y / 2 ^ k ≤ 4096 = omega (arith, div-le_self y (2 ^ k)) in
    let b : x / 2 ^ k ≤ 4096 = omega (arith, div-le_self x (2 ^ k)) in
    let r : y / 2 ^ k * w ≤ 4096 * 256 = mul-le-mul a hw in
    let c : cells * cells ≤ 16 * 16 = mul-le-mul d d in
    let s : y / 2 ^ k * w + x / 2 ^ k ≤ 1052672 = omega arith in
    record { row = omega arith; square = omega arith; all = omega (arith, mul-le-mul s c) }
