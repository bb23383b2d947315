-- What a call to the angular door has where its number is 0. Rests on the numbers.
use Rattle.std.specs.Prelude.{◌≡◌, ◌&&◌, ℕ, ◌+◌, ◌*◌, ◌≤◌, ◌<◌, leb}
use Rattle.std.proofs.Common.{arith, leb-true}
use Rattle.laws.specs.Choose.{both_true}
use Rattle.domain.specs.Domain.{mode_ok}
use Rattle.domain.specs.Facts.{Depth, Size, depth_of, size_of, size_small}
use Rattle.predict.specs.declared.refusals.Lent.{Lent}
use Rattle.predict.specs.refusals.Refusals.{Lengths, lengths_of, angular_no, told}

-- what a call that is served has
pub record Fit (bits n mode : ℕ) (l : Lengths) : Type 0 where
  pub depth : Depth bits
  pub size : Size n
  pub low : 2 ≤ mode
  pub high : mode < 35
  pub above : 2 * n ≤ l.above
  pub left : 2 * n ≤ l.left
  pub room : n * n ≤ l.pred
  pub refs : 65 + n ≤ l.refs

pub fit : (bits n mode : ℕ) (l : Lengths) → angular_no bits n mode l ≡ 0 → Fit bits n mode l
fit bits n mode l e =
    let t = told bits n (leb 2 mode && mode_ok mode) l e in
    let m = both_true (leb 2 mode) (mode_ok mode) t.mode in
    let size = size_of n t.size in
    let top : mode ≤ 34 = leb-true mode 34 m.1 in
    record {
      depth = depth_of bits t.depth;
      size = size;
      low = leb-true 2 mode m.0;
      high = omega arith;
      above = t.above;
      left = t.left;
      room = t.pred;
      refs = omega (arith, t.refs, size_small n size);
    }

pub fit_lent : (bits n mode : ℕ) (l : Lent) → angular_no bits n mode (lengths_of l) ≡ 0 → Fit bits n mode (lengths_of l)
fit_lent bits n mode l e = fit bits n mode (lengths_of l) e
