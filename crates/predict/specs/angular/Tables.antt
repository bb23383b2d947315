-- The tables by the distance of a mode from 18 are the standard's, and how far they reach. Assumes nothing.
use Rattle.std.specs.Prelude.{◌≡◌, Bool, true, cond, ℕ, ◌+◌, ◌-◌, ◌*◌, ◌≤◌, ◌<◌, leb, ltb, eqb, T, get_or}
use Rattle.std.proofs.Common.{subst, ap, ◌∙◌, arith, leb→le, eqb→eq, le-ltb}
use Rattle.laws.specs.Table.{at}
use Rattle.domain.specs.Facts.{Size, at_size}
use Rattle.predict.specs.angular.Unsigned.{angles, inverses, side_of}
use Rattle.predict.specs.angles.Starts.{first_of}
use Rattle.predict.specs.angles.Angles.{turns, bends}

pub turn_angle : (mode : ℕ) → 2 ≤ mode → mode < 35 → get_or turns (mode - 18 + (18 - mode)) 0 ≡ get_or angles mode 0
turn_angle mode l h =
    eqb→eq _ _
    (subst (λ (b : Bool). T (cond b true (eqb (get_or turns (mode - 18 + (18 - mode)) 0) (get_or angles mode 0)))) (le-ltb mode 2 l)
    (at (λ k x. cond (ltb k 2) true (eqb (get_or turns (k - 18 + (18 - k)) 0) x)) angles tt mode h))

pub bend_inverse : (mode : ℕ) → 2 ≤ mode → mode < 35 → get_or bends (mode - 18 + (18 - mode)) 0 ≡ get_or inverses mode 0
bend_inverse mode l h = eqb→eq _ _ (at (λ k x. eqb (get_or bends (k - 18 + (18 - k)) 0) x) inverses tt mode h)

-- angles below 0 are those of the first eight
pub turn_low : (d : ℕ) → d < 8 → get_or turns d 0 < 32
turn_low d h = let q : get_or turns d 0 ≤ 31 = leb→le _ _ (at (λ k x. leb (get_or turns k 0) 31) bends tt d h) in omega arith

pub turn_high : (d : ℕ) → 8 ≤ d → d < 17 → (32 ≤ get_or turns d 0) × (get_or turns d 0 ≤ 64)
turn_high d l h = (
  leb→le _ _ (subst (λ (b : Bool). T (cond b true (leb 32 (get_or turns d 0)))) (le-ltb d 8 l)
      (at (λ k x. cond (ltb k 8) true (leb 32 x)) turns tt d h)),
  leb→le _ _ (at (λ k x. leb x 64) turns tt d h),
)

-- how far into the side row the references go, by a test at each mode and size
pub side_reach : (mode n : ℕ) → mode < 35 → Size n → side_of (get_or inverses mode 0) (first_of (get_or angles mode 0) n) ≤ 2 * n
side_reach mode n h s =
    at_size (λ (m : ℕ). side_of (get_or inverses mode 0) (first_of (get_or angles mode 0) m) ≤ 2 * m)
    (leb→le _ _ (at (λ k x. leb (side_of x (first_of (get_or angles k 0) 4)) 8) inverses tt mode h))
    (leb→le _ _ (at (λ k x. leb (side_of x (first_of (get_or angles k 0) 8)) 16) inverses tt mode h))
    (leb→le _ _ (at (λ k x. leb (side_of x (first_of (get_or angles k 0) 16)) 32) inverses tt mode h))
    (leb→le _ _ (at (λ k x. leb (side_of x (first_of (get_or angles k 0) 32)) 64) inverses tt mode h))
    n s

pub bend_reach : (d n : ℕ) → d < 17 → Size n → side_of (get_or bends d 0) (first_of (get_or turns d 0) n) ≤ 2 * n
bend_reach d n h s =
    let q : d ≡ 18 + d - 18 + (18 - (18 + d)) = omega arith in
    let e : get_or turns d 0 ≡ get_or angles (18 + d) 0 = ap (λ (k : ℕ). get_or turns k 0) q ∙ turn_angle (18 + d) (omega arith) (omega arith) in
    let i : get_or bends d 0 ≡ get_or inverses (18 + d) 0 = ap (λ (k : ℕ). get_or bends k 0) q
    ∙ bend_inverse (18 + d) (omega arith) (omega arith) in
    rw (e, i) (side_reach (18 + d) n (omega arith) s)
