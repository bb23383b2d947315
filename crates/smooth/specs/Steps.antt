-- The entries of a smoothed row as the code works them out, and what a call that is not refused knows. Assumes nothing.
use Rattle.std.specs.Prelude.{◌≡◌, Bool, true, false, ◌&&◌, List, ℕ, ◌+◌, ◌-◌, ◌*◌, ◌/◌, ◌%◌, ◌≤◌, ◌<◌, leb, length, get_or}
use Rattle.std.proofs.Math.Path.{refl}
use Rattle.std.proofs.Common.{ap, arith}
use Rattle.std.proofs.Math.Logic.{⊎_elim}
use borrow.Author.Tests.{lt-ltb, le-ltb, leb-true}
use Rattle.laws.specs.Diff.{order, sub_pos}
use Rattle.laws.specs.Choose.{passed, both_true}
use Rattle.domain.specs.Domain.{depth_ok, size_ok}
use Rattle.domain.specs.Facts.{Depth, Size, depth_of, size_of, size_small}
use Rattle.h265.specs.Notation.{from_rows}
use Rattle.h265.specs.Filtering.{bi_int_flag, strong_at, weak_at}
use Rattle.domain.specs.declared.rows.Rows.{Rows}
use Rattle.smooth.specs.Answers.{FilteredRows}
use Rattle.smooth.specs.Smoothing.{row_entry, row_of, smoothed, filter_no, filter_luma_no, filter_references}
use Rattle.smooth.specs.Forms.{weak_row, strong_side, strong_is, weak_is, never_strong}

-- entry x of a row that comes out, in the one form and the other
abbrev pub weak_entry : ℕ → ℕ → List ℕ → ℕ → ℕ
weak_entry n corner row x = row_entry n (weak_row n corner (λ i. get_or row i 0)) row x

abbrev pub strong_entry : ℕ → List ℕ → ℕ → ℕ
strong_entry corner row x = row_entry 32 (strong_at corner (get_or row 63 0)) row x

module _ (n corner : ℕ) (row : List ℕ) where
  pub weak_first : 4 ≤ n → (get_or row 1 0 + 2 * get_or row 0 0 + corner + 2) / 4 ≡ weak_entry n corner row 0
  unfolding weak_at
  weak_first h = rw (lt-ltb 0 (2 * n) (omega arith), lt-ltb 0 (2 * n - 1) (omega arith))

  pub weak_mid : (x : ℕ) → 1 ≤ x → x < 2 * n - 1 → (get_or row (x + 1) 0 + 2 * get_or row x 0 + get_or row (x - 1) 0 + 2) / 4
      ≡ weak_entry n corner row x
  unfolding weak_at
  weak_mid x h l = rw (lt-ltb x (2 * n) (omega arith), lt-ltb x (2 * n - 1) l, sub_pos x 1 h)

  pub weak_end : (x : ℕ) → 2 * n - 1 ≤ x → get_or row x 0 ≡ weak_entry n corner row x
  unfolding weak_at
  weak_end x h = ⊎_elim (λ l. rw (lt-ltb x (2 * n) l, le-ltb x (2 * n - 1) h)) (λ l. rw (le-ltb x (2 * n) l)) (order x (2 * n))

  pub strong_mid : (x : ℕ) → x < 63 → strong_at corner (get_or row 63 0) (x % 64) ≡ strong_entry corner row x
  strong_mid x h = let e : x % 64 ≡ x = omega arith in rw (lt-ltb x (2 * 32) (omega arith), e)

  pub strong_last : get_or row 63 0 ≡ strong_entry corner row 63
  unfolding strong_at
  strong_last = refl

  pub strong_kept : get_or row 64 0 ≡ strong_entry corner row 64
  strong_kept = refl

-- what a call that is not refused knows
pub record SmoothReady (n above left : ℕ) : Type 0 where
  pub size : Size n
  pub low : 4 ≤ n
  pub high : n ≤ 32
  pub up : 65 ≤ above
  pub side : 65 ≤ left

pub ready : (n above left : ℕ) → filter_no n above left ≡ 0 → SmoothReady n above left
ready n above left e =
    let p = passed (size_ok n) _ 2 (omega arith) e in
    let q = (passed (leb 65 above && leb 65 left) 0 5 (omega arith) p.1).0 in
    let b = both_true (leb 65 above) (leb 65 left) q in
    let s = size_of n p.0 in
    record { size = s; low = (size_small n s).0; high = (size_small n s).1; up = leb-true 65 above b.0; side = leb-true 65 left b.1 }

-- either form, row by row
module _ (allowed : Bool) (bits n corner : ℕ) (above left : List ℕ) where
  pub give_strong : {a l : List ℕ} → bi_int_flag allowed bits n (from_rows corner above left) ≡ true → a
      ≡ row_of 32 (strong_at corner (get_or above 63 0)) above → l ≡ row_of 32 (strong_at corner (get_or left 63 0)) left
      → ◌≡◌ {A = Rows} (record { corner = corner; above = a; left = l }) (smoothed allowed bits n corner above left)
  unfolding smoothed
  give_strong f p q =
      rw (strong_is allowed bits n (from_rows corner above left) f, p, q, strong_side allowed bits n (from_rows corner above left) f)

  pub give_weak : {v : ℕ} {a l : List ℕ} → bi_int_flag allowed bits n (from_rows corner above left) ≡ false → v
      ≡ (get_or left 0 0 + 2 * corner + get_or above 0 0 + 2) / 4 → a ≡ row_of n (weak_row n corner (λ x. get_or above x 0)) above → l
      ≡ row_of n (weak_row n corner (λ x. get_or left x 0)) left
      → ◌≡◌ {A = Rows} (record { corner = v; above = a; left = l }) (smoothed allowed bits n corner above left)
  unfolding smoothed
  give_weak f u p q = rw (weak_is allowed bits n (from_rows corner above left) f, u, p, q)

pub luma_ready : (bits n above left : ℕ) → filter_luma_no bits n above left ≡ 0 → Depth bits × SmoothReady n above left
luma_ready bits n above left e =
    let p = passed (depth_ok bits) (filter_no n above left) 1 (omega arith) e in (depth_of bits p.0, ready n above left p.1)

-- the door of the two rows, where it is served
pub filter_served : (n corner : ℕ) (above left : List ℕ) {a l : List ℕ} → filter_no n (length above) (length left) ≡ 0 → a
    ≡ row_of n (weak_row n corner (λ x. get_or above x 0)) above → l ≡ row_of n (weak_row n corner (λ x. get_or left x 0)) left
    → ◌≡◌ {A = FilteredRows} (record { no = 0; above = a; left = l }) (filter_references corner above left n)
unfolding filter_references
filter_served n corner above left e p q =
    rw e
    (ap (λ (r : Rows). record { no = 0; above = r.above; left = r.left })
    (give_weak false 0 n corner above left (never_strong 0 n (from_rows corner above left)) refl p q))
