-- What the loops ask of a planar or DC call, which a number of 0 tells, and one sample of planar over the samples that it mixes.
-- Rests on the domain and on the numbers.
use Rattle.std.specs.Prelude.{ℕ, ◌+◌, ◌-◌, ◌*◌, ◌/◌, ◌≤◌, ◌<◌, ◌≡◌, ◌&&◌, leb}
use Rattle.std.proofs.Common.{subst, arith, leb-true}
use Rattle.laws.specs.Choose.{passed, both_true}
use Rattle.laws.specs.Weigh.{row_room}
use Rattle.domain.specs.Domain.{size_ok, predictor_row}
use Rattle.domain.specs.Facts.{Size, size_of, size_small}
use Rattle.predict.specs.refusals.Refusals.{flat_no}

-- what the loops ask of the side and the rows: planar reads entries 0 .. n, DC less
pub record FlatReady (n a l : ℕ) : Type 0 where
  pub size : Size n
  pub some : 4 ≤ n
  pub most : n ≤ 32
  pub above : 2 * n ≤ a
  pub left : 2 * n ≤ l

-- a call that is not refused
pub ready : (n a l p : ℕ) → flat_no n a l p ≡ 0 → FlatReady n a l × (n * n ≤ p)
unfolding flat_no
ready n a l p e =
    let s = passed (size_ok n) _ 2 (omega arith) e in
    let t = passed (leb (predictor_row n) a && leb (predictor_row n) l && leb (n * n) p) 0 5 (omega arith) s.1 in
    let u = both_true (leb (predictor_row n) a && leb (predictor_row n) l) (leb (n * n) p) t.0 in
    let v = both_true (leb (predictor_row n) a) (leb (predictor_row n) l) u.0 in
    let size = size_of n s.0 in
    let small = size_small n size in (
      record {
        size = size;
        some = small.0;
        most = small.1;
        above = leb-true (predictor_row n) a v.0;
        left = leb-true (predictor_row n) l v.1;
      },
      leb-true (n * n) p u.1,
    )

-- the first row is within the block
pub wide : (n p : ℕ) → 0 < n → n * n ≤ p → n ≤ p
wide n p h l = omega (arith, row_room 0 n h)

-- what holds at n, at the number that n was found to be
pub as_found : (n m a l p : ℕ) → n ≡ m → FlatReady n a l × (n * n ≤ p) → FlatReady m a l × (m * m ≤ p)
as_found n m a l p e h = subst (λ (k : ℕ). FlatReady k a l × (k * k ≤ p)) e h

-- planar at row y and column x: l stands left of the row, tr right of the row above, t above the column, bl below the left column
unfoldable pub planar_sample : ℕ → ℕ → ℕ → ℕ → ℕ → ℕ → ℕ → ℕ
planar_sample n y x l tr t bl = ((n - 1 - x) * l + (x + 1) * tr + ((n - 1 - y) * t + (y + 1) * bl) + n) / (2 * n)
