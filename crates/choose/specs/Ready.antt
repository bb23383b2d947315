-- What a choice that is not refused has, and that no predictor and no smoothing refuses it. Rests on the numbers of all three.
use Rattle.std.specs.Prelude.{◌≡◌, true, List, ℕ, ◌*◌, ◌≤◌, leb, length}
use Rattle.std.proofs.Common.{arith}
use Rattle.std.specs.Borrow.{Bor, MutBor}
use borrow.Author.Tests.{leb-true, le-leb}
use Rattle.laws.specs.Choose.{passed, both_true}
use Rattle.domain.specs.Domain.{depth_ok, size_ok, smoothing_row}
use Rattle.domain.specs.Facts.{Size, size_of, size_small}
use Rattle.smooth.specs.Smoothing.{filter_luma_no}
use Rattle.predict.specs.refusals.Refusals.{Lengths, lengths, is_enough, flat_no, angular_no}
use Rattle.choose.specs.Choose.{lends_enough, choose_no}

-- the lengths of what a private function is lent
abbrev pub held_by : Bor (List ℕ) → Bor (List ℕ) → MutBor (List ℕ) → MutBor (List ℕ) → MutBor (List ℕ) → MutBor (List ℕ) → Lengths
held_by above left pred refs indices fractions =
    lengths (length above.now) (length left.now) (length pred.now) (length refs.now) (length indices.now) (length fractions.now)

-- rows and scratch are long enough
pub record Long (n : ℕ) (l : Lengths) : Type 0 where
  pub above : 65 ≤ l.above
  pub left : 65 ≤ l.left
  pub room : n * n ≤ l.pred
  pub refs : 193 ≤ l.refs
  pub indices : 32 ≤ l.indices
  pub fractions : 32 ≤ l.fractions

pub long_enough : (n source : ℕ) (l : Lengths) → lends_enough n source l ≡ true → Long n l × (n * n ≤ source)
long_enough n source l e =
    let a = both_true _ (leb 32 l.fractions) e in
    let b = both_true _ (leb 32 l.indices) a.0 in
    let c = both_true _ (leb 193 l.refs) b.0 in
    let d = both_true _ (leb (n * n) l.pred) c.0 in
    let f = both_true _ (leb (n * n) source) d.0 in
    let g = both_true (leb smoothing_row l.above) (leb smoothing_row l.left) f.0 in (
      record {
        above = leb-true _ _ g.0;
        left = leb-true _ _ g.1;
        room = leb-true _ _ d.1;
        refs = leb-true _ _ c.1;
        indices = leb-true _ _ b.1;
        fractions = leb-true _ _ a.1;
      },
      leb-true _ _ f.1,
    )

-- what a number of 0 says of a call whose source has so many samples
pub record Ready (bits n source : ℕ) (l : Lengths) : Type 0 where
  pub depth : depth_ok bits ≡ true
  pub size : size_ok n ≡ true
  pub room : n * n ≤ source
  pub long : Long n l

pub ready : (bits n : ℕ) (source : List ℕ) (l : Lengths) → choose_no bits n source l ≡ 0 → Ready bits n (length source) l
unfolding choose_no
ready bits n source l e =
    let p = passed (depth_ok bits) _ 1 (omega arith) e in
    let q = passed (size_ok n) _ 2 (omega arith) p.1 in
    let s = passed (lends_enough n (length source) l) _ 5 (omega arith) q.1 in
    let w = long_enough n (length source) l s.0 in
    record { depth = p.0; size = q.0; room = w.1; long = w.0 }

-- with other rows
pub with_rows : {bits n source : ℕ} {l : Lengths} → Ready bits n source l → (above left : ℕ) → 65 ≤ above → 65 ≤ left
    → Ready bits n source (lengths above left l.pred l.refs l.indices l.fractions)
with_rows r above left h k =
    let w = r.long in
    record {
      depth = r.depth;
      size = r.size;
      room = r.room;
      long = record { above = h; left = k; room = w.room; refs = w.refs; indices = w.indices; fractions = w.fractions };
    }

-- with scratch that is as long
module _ {bits n source : ℕ} {l : Lengths} (r : Ready bits n source l) where
  pub side-of : Size n
  side-of = size_of n r.size

  pub as_long : {pred refs indices fractions : ℕ} → pred ≡ l.pred → refs ≡ l.refs → indices ≡ l.indices → fractions ≡ l.fractions
      → Ready bits n source (lengths l.above l.left pred refs indices fractions)
  as_long a b c d =
      let w = r.long in
      record {
        depth = r.depth;
        size = r.size;
        room = r.room;
        long = record {
          above = w.above;
          left = w.left;
          room = rw a w.room;
          refs = rw b w.refs;
          indices = rw c w.indices;
          fractions = rw d w.fractions;
        };
      }

-- nothing that it calls refuses it
module _ {n : ℕ} {l : Lengths} (size : size_ok n ≡ true) (w : Long n l) where
  pub flat_serves : flat_no n l.above l.left l.pred ≡ 0
  unfolding flat_no
  flat_serves =
      let h = size_small n (size_of n size) in
      let a = w.above in
      let b = w.left in
      rw (
        size,
        le-leb (2 * n) l.above (omega arith),
        le-leb (2 * n) l.left (omega arith),
        le-leb (n * n) l.pred w.room,
      )

  enough : is_enough n l ≡ true
  enough =
      let h = size_small n (size_of n size) in
      let a = w.above in
      let b = w.left in
      rw (
        le-leb (2 * n) l.above (omega arith),
        le-leb (2 * n) l.left (omega arith),
        le-leb (n * n) l.pred w.room,
        le-leb 193 l.refs w.refs,
        le-leb 32 l.indices w.indices,
        le-leb 32 l.fractions w.fractions,
      )

  pub angular_serves : (bits mode : ℕ) → depth_ok bits ≡ true → 2 ≤ mode → mode ≤ 34 → angular_no bits n mode l ≡ 0
  angular_serves bits mode depth h k = rw (depth, size, le-leb 2 mode h, le-leb mode 34 k, enough)

pub smoothing_serves : (bits n above left : ℕ) → depth_ok bits ≡ true → size_ok n ≡ true → 65 ≤ above → 65 ≤ left
    → filter_luma_no bits n above left ≡ 0
smoothing_serves bits n above left d s h k = rw (d, s, le-leb 65 above h, le-leb 65 left k)
