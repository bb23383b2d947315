-- The strong form's limit and its entries up to 63, H.265 8.4.4.2.3. Rests on the standard's clause and a depth's largest sample.
use Rattle.std.specs.Prelude.{◌≡◌, ℕ, ◌+◌, ◌-◌, ◌*◌, ◌/◌, ◌^◌, ◌<◌, ◌≤◌, Bool, true, false, cond, ◌&&◌, pos, ◌-ℤ◌, nat_lt, unsigned_abs, refl}
use Rattle.std.proofs.Common.{ap, ⊎_elim, arith, lt-ltb, le-ltb}
use Rattle.std.specs.Int.{abs_diff}
use Rattle.laws.specs.Diff.{order}
use Rattle.h265.specs.Filtering.{straight, strong_at}
use Rattle.domain.specs.Domain.{depth_ok}
use Rattle.domain.specs.Facts.{depth_of, at_depth}
use Rattle.fmt.specs.depth.Depth.{largest_of}
use Rattle.fmt.specs.depth.Laws.{largest_of_none}

-- the limit by the largest sample: 0 where there is no such depth
limit_is : (bits : ℕ) → (largest_of bits + 1) / 32 ≡ cond (depth_ok bits) (2 ^ (bits - 5)) 0
limit_is bits = go (depth_ok bits) refl
  where
    go : (b : Bool) → depth_ok bits ≡ b → (largest_of bits + 1) / 32 ≡ cond b (2 ^ (bits - 5)) 0
    go true e = at_depth (λ (k : ℕ). (largest_of k + 1) / 32 ≡ 2 ^ (k - 5)) refl refl refl bits (depth_of bits e)
    go false e = ap (λ (k : ℕ). (k + 1) / 32) (largest_of_none bits e)

-- nothing is below 0
below : (b : Bool) (d m : ℕ) → nat_lt d (cond b m 0) ≡ (b && nat_lt d m)
below true d m = refl
below false d m = le-ltb d 0 (omega arith)

apart_is : (x y : ℕ) → abs_diff x y ≡ unsigned_abs (pos x -ℤ pos y)
apart_is x y = grind arith

pub straight_is : (bits corner mid far : ℕ)
    → nat_lt (abs_diff (corner + far) (2 * mid)) ((largest_of bits + 1) / 32) ≡ (depth_ok bits && straight bits corner mid far)
unfolding straight
straight_is bits corner mid far =
    rw (apart_is (corner + far) (2 * mid), limit_is bits)
    (below (depth_ok bits) (unsigned_abs (pos (corner + far) -ℤ pos (2 * mid))) (2 ^ (bits - 5)))

-- the quotient of entry 63 is the far end itself
pub ramp_is : (x corner far : ℕ) → x < 64 → ((63 - x) * corner + (x + 1) * far + 32) / 64 ≡ strong_at corner far x
unfolding strong_at
ramp_is x corner far h =
    ⊎_elim
    (λ l. rw (lt-ltb x 63 l))
    (λ (l : 63 ≤ x). let e : x ≡ 63 = omega arith in rw e (let q : (0 * corner + 64 * far + 32) / 64 ≡ far = omega arith in q))
    (order x 63)
