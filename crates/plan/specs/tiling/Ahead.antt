-- The count of the cells ahead, turn by turn, and what it asks of a place in a good picture. Assumes nothing.
use Rattle.std.specs.Prelude.{◌≡◌, ℕ, zero, suc, ◌+◌, ◌-◌, ◌*◌, ◌/◌, ◌%◌, ◌^◌, ◌≤◌, ◌<◌, min}
use Rattle.std.proofs.Common.{ap, mul-le-mul_left, mul-le-mul_right, mul-le-mul, sub-one, arith, pow_pos}
use Rattle.std.proofs.Math.Nat.{pow-le-pow_right}
use Rattle.h265.specs.Notation.{log2}
use Rattle.order.specs.CellWalk.{dbl}
use Rattle.order.specs.Good.{Good, sized}
use Rattle.plan.specs.declared.tiling.Frame.{Frame}
use Rattle.plan.specs.tiling.Tiling.{picture_of, In}
use Rattle.plan.specs.tiling.Check.{ahead_by, ahead}
use Rattle.plan.specs.tiling.Cover.{ahead_lt}

-- a turn of the loop that counts them, from the cell up to the CTU
abbrev pub Counts : ℕ → ℕ → ℕ → ℕ → ℕ → ℕ → ℕ → ℕ → ℕ → ℕ → Type 0
Counts h w T row col s z left y x = (ahead_by h w left s y x + z ≡ T) × ((y * s ≤ row) × ((x * s ≤ col) × (s * 2 ^ left ≤ 16)))

pub count_more : (h w T row col s z left y x : ℕ) → 0 < left → Counts h w T row col s z left y x
    → Counts h w T row col (2 * s) (z + (x % 2 * (s * min s (h - y * s)) + y % 2 * (s * min (2 * s) (w - x / 2 * (2 * s))))) (left - 1)
    (y / 2) (x / 2) × (s ≤ 8)
unfolding ahead_by
count_more h w T row col s z zero y x l c = absurd (omega arith)
count_more h w T row col s z (suc k) y x l c =
    let half : (v : ℕ) → v / 2 * (2 * s) ≤ v * s = λ v. let m : v / 2 * 2 * s ≤ v * s = mul-le-mul_right s (omega arith) in omega arith in
    let two = dbl s k in
    let one = mul-le-mul_left s (pow_pos k) in
    rw (sub-one (suc k)) (
      (omega (arith, c), (omega (arith, c, half y), (omega (arith, c, half x), omega (arith, c, two)))),
      omega
          (arith, c, two, one),
    )

pub count_start : (h w m row col : ℕ) → m ≤ 4 → Counts h w (ahead_by h w m 1 row col) row col 1 0 m row col
count_start h w m row col l = (
  omega arith,
  (
    omega arith,
    (omega arith, let p : 2 ^ m ≤ 2 ^ 4 = pow-le-pow_right (omega arith) l in omega arith),
  ),
)

pub count_end : (h w T row col s z left y x : ℕ) → left ≤ 0 → Counts h w T row col s z left y x
    → (z + (y * s * w + x * (s * min s (h - y * s))) ≡ T) × ((y * s ≤ row) × (s ≤ 16))
unfolding ahead_by
count_end h w T row col s z zero y x l c = (omega (arith, c), (c.1.0, omega (arith, c)))
count_end h w T row col s z (suc k) y x l c = absurd (omega arith)

-- a good picture's area
pub area_small : {f : Frame} → Good (picture_of f) → f.height * f.width ≤ 16777216
area_small {f} g = mul-le-mul g.tall.high g.wide.high

-- what the count asks, of a place in a good picture
pub asks : {f : Frame} → Good (picture_of f) → (r c m : ℕ) → In f r c → m ≡ log2 f.ctu - 2
    → (f.height / 4 ≤ 1024) × (f.width / 4 ≤ 1024) × (m ≤ 4) × (r / 4 < f.height / 4) × (c / 4 < f.width / 4)
    × (ahead_by (f.height / 4) (f.width / 4) m 1 (r / 4) (c / 4) < 2 ^ 32)
unfolding ahead
asks {f} g r c m i e = (
  omega (arith, g.tall.high),
  omega (arith, g.wide.high),
  omega (arith, e, (sized g).bounds),
  omega (arith, i.0, g.tall.whole),
  omega (arith, i.1, g.wide.whole),
  omega (arith, ap (λ (u : ℕ). ahead_by (f.height / 4) (f.width / 4) u 1 (r / 4) (c / 4)) e, ahead_lt g r c i, area_small g),
)
