-- A vertical mode in parts: its references laid once, then rows of it from any row on. What they hold is the standard's block, edges as
-- they are. Assumes nothing.
use Rattle.std.specs.Prelude.{◌≡◌, Bool, cond, ◌&&◌, List, ℕ, ◌+◌, ◌-◌, ◌*◌, ◌≤◌, ◌<◌, leb, ltb, length}
use Rattle.std.proofs.Math.Path.{sym, ap}
use Rattle.std.proofs.Common.{◌∙◌, zero-add}
use Rattle.std.proofs.Math.Logic.{⊎_elim}
use native.Mathlib.Omega.{arith}
use Rattle.std.proofs.Math.ListN.{get_or}
use borrow.Author.Tests.{lt-ltb, le-ltb, le-leb, ne_eqb, leb-true}
use Rattle.laws.specs.Fill.{run, rows, block}
use Rattle.laws.specs.FillLaws.{rows_same}
use Rattle.laws.specs.Choose.{passed, both_true}
use Rattle.laws.specs.Diff.{order}
use Rattle.domain.specs.Domain.{size_ok, mode_ok, predictor_row}
use Rattle.domain.specs.Facts.{Size, size_of, size_small}
use Rattle.h265.specs.Notation.{from_rows}
use Rattle.h265.specs.Angular.{angular}
use Rattle.predict.specs.refusals.Refusals.{refs_no, rows_no}
use Rattle.predict.specs.angular.Unsigned.{angles, inverses, ref_at, vertical_at, angular_at}
use Rattle.predict.specs.angular.Bridge.{angular_same}
use Rattle.predict.specs.angles.Starts.{first_of}
use Rattle.predict.specs.angles.Angles.{turns, bends}
use Rattle.predict.specs.angular.Lines.{line_at, line_from}
use Rattle.predict.specs.angular.Tables.{turn_angle, bend_inverse, turn_low, turn_high}
use Rattle.predict.specs.angular.Blocks.{main_line, refs_line}

-- a list into which the references of the mode 18 + d are laid: those of a negative angle, as far as a block of side n reads them
unfoldable pub laid_refs : ℕ → List ℕ → List ℕ → ℕ → ℕ → List ℕ → List ℕ
laid_refs corner above left n d refs =
    let lo = first_of (get_or turns d 0) n in
    cond (ltb d 8) (run (λ (i : ℕ). ref_at (from_rows corner above left) (get_or bends d 0) (lo + i)) lo (65 + n - lo) refs) refs

-- the sample in row r and column c that is read from it, and from the row above where the angle is not negative
unfoldable pub laid_at : List ℕ → List ℕ → ℕ → ℕ → ℕ → ℕ
laid_at above refs d r c = cond (ltb d 8) (line_at refs 65 (get_or turns d 0) r c) (line_at above 0 (get_or turns d 0) r c)

-- the whole block is its rows from row 0 on
pub some : {n : ℕ} → Size n → 0 < n
some {n} s = let h = (size_small n s).0 in omega arith

pub from_first : (refs : List ℕ) (b e n : ℕ) (d : List ℕ) → 0 < n → rows (line_from refs b e 0) n n d ≡ block (line_at refs b e) n d
from_first refs b e n d s = rows_same _ _ n n d (λ r c hr hc. ap (λ (k : ℕ). line_at refs b e k c) (zero-add r)) s

-- the two kinds, as the code takes them
module _ (corner : ℕ) (above left refs : List ℕ) (n d : ℕ) where
  pub laid_low : d < 8 → run (λ (i : ℕ). ref_at (from_rows corner above left) (get_or bends d 0) (first_of (get_or turns d 0) n + i))
      (first_of (get_or turns d 0) n) (65 + n - first_of (get_or turns d 0) n) refs ≡ laid_refs corner above left n d refs
  unfolding laid_refs
  laid_low h = rw (lt-ltb d 8 h)

  pub laid_high : 8 ≤ d → refs ≡ laid_refs corner above left n d refs
  unfolding laid_refs
  laid_high h = rw (le-ltb d 8 h)

module _ (above refs : List ℕ) (n d first count : ℕ) (p : List ℕ) (s : 0 < n) where
  pub rows_low : d < 8 → rows (line_from refs 65 (get_or turns d 0) first) n count p
      ≡ rows (λ (y x : ℕ). laid_at above refs d (first + y) x) n count p
  unfolding laid_at
  rows_low h = rows_same _ _ n count p (λ r c hr hc. rw (lt-ltb d 8 h)) s

  pub rows_high : 8 ≤ d → rows (line_from above 0 (get_or turns d 0) first) n count p
      ≡ rows (λ (y x : ℕ). laid_at above refs d (first + y) x) n count p
  unfolding laid_at
  rows_high h = rows_same _ _ n count p (λ r c hr hc. rw (le-ltb d 8 h)) s

-- what is read from references that were laid is the standard's sample
module _ (corner : ℕ) (above left : List ℕ) (n : ℕ) (s : Size n) where
  laid_vertical : (refs : List ℕ) (d r c : ℕ) → d < 17 → r < n → c < n → 65 + n ≤ length refs
      → laid_at above (laid_refs corner above left n d refs) d r c
      ≡ vertical_at (from_rows corner above left) (get_or turns d 0) (get_or bends d 0) r c
  unfolding laid_at
  laid_vertical refs d r c h hr hc l =
      let z = (size_small n s).1 in
      ⊎_elim
      (λ low. rw (lt-ltb d 8 low) (refs_line corner above left (get_or turns d 0) (get_or bends d 0) n _ refs r c (turn_low d low) z hr hc l
      (sym (laid_low corner above left refs n d low))))
      (λ high. rw (le-ltb d 8 high)
      (main_line corner above left (get_or turns d 0) (get_or bends d 0) r c (turn_high d high h).0 (omega arith)))
      (order d 8)

  -- the whole block
  pub laid_block : (refs : List ℕ) (d : ℕ) (p : List ℕ) → d < 17 → 65 + n ≤ length refs
      → rows (λ (y x : ℕ). laid_at above (laid_refs corner above left n d refs) d (0 + y) x) n n p
      ≡ block (vertical_at (from_rows corner above left) (get_or turns d 0) (get_or bends d 0)) n p
  laid_block refs d p h l =
      let z = (size_small n s).0 in
      rows_same _ _ n n p
      (λ r c hr hc. ap (λ (k : ℕ). laid_at above (laid_refs corner above left n d refs) d k c) (zero-add r)
      ∙ laid_vertical refs d r c h hr hc l) (omega arith)

  pub laid_angular : (refs : List ℕ) (bits mode : ℕ) (edge : Bool) (x y : ℕ) → 18 ≤ mode → mode < 35 → (mode ≡ 26 → ⊥) → x < n → y < n
      → 65 + n ≤ length refs
      → laid_at above (laid_refs corner above left n (mode - 18) refs) (mode - 18) y x
      ≡ angular bits edge n mode (from_rows corner above left) x y
  unfolding angular_at
  laid_angular refs bits mode edge x y lo hi f hx hy l =
      let q : mode - 18 ≡ mode - 18 + (18 - mode) = omega arith in
      let e : get_or turns (mode - 18) 0 ≡ get_or angles mode 0 = ap (λ (k : ℕ). get_or turns k 0) q ∙ turn_angle mode (omega arith) hi in
      let i : get_or bends (mode - 18) 0 ≡ get_or inverses mode 0 = ap (λ (k : ℕ). get_or bends k 0) q ∙ bend_inverse mode (omega arith) hi in
      laid_vertical refs (mode - 18) y x (omega arith) hy hx l
      ∙ (let w : vertical_at (from_rows corner above left) (get_or turns (mode - 18) 0) (get_or bends (mode - 18) 0) y x
      ≡ angular_at bits edge n mode (from_rows corner above left) x y = rw (e, i, le-leb 18 mode lo, ne_eqb mode 26 f) in w)
      ∙ sym (angular_same bits n mode edge (from_rows corner above left) x y (size_small n s).1 hi hx hy)

-- what a call for references has where its number is 0, and one for rows
pub record RefsFit (n mode a l r : ℕ) : Type 0 where
  pub size : Size n
  pub low : 18 ≤ mode
  pub high : mode < 35
  pub above : 2 * n ≤ a
  pub left : 2 * n ≤ l
  pub refs : 65 + n ≤ r

pub refs_fit : (n mode above left refs : ℕ) → refs_no n mode above left refs ≡ 0 → RefsFit n mode above left refs
unfolding refs_no
refs_fit n mode above left refs e =
    let q = passed (size_ok n) _ 2 (omega arith) e in
    let r = passed (leb 18 mode && mode_ok mode) _ 3 (omega arith) q.1 in
    let s = passed (leb (predictor_row n) above && leb (predictor_row n) left && leb 193 refs) _ 5 (omega arith) r.1 in
    let m = both_true (leb 18 mode) (mode_ok mode) r.0 in
    let a = both_true _ (leb 193 refs) s.0 in
    let b = both_true (leb (predictor_row n) above) (leb (predictor_row n) left) a.0 in
    let size = size_of n q.0 in
    let top : mode ≤ 34 = leb-true mode 34 m.1 in
    record {
      size = size;
      low = leb-true 18 mode m.0;
      high = omega arith;
      above = leb-true _ _ b.0;
      left = leb-true _ _ b.1;
      refs = let h : 193 ≤ refs = leb-true _ _ a.1 in omega (arith, size_small n size);
    }

pub record RowsFit (n mode first end a r p : ℕ) : Type 0 where
  pub size : Size n
  pub low : 18 ≤ mode
  pub high : mode < 35
  pub above : 2 * n ≤ a
  pub refs : 65 + n ≤ r
  pub room : n * n ≤ p
  pub part : first + (end - first) ≤ n
  pub ordered : first ≤ end

pub rows_fit : (n mode first end above refs pred : ℕ) → rows_no n mode first end above refs pred ≡ 0
    → RowsFit n mode first end above refs pred
unfolding rows_no
rows_fit n mode first end above refs pred e =
    let q = passed (size_ok n) _ 2 (omega arith) e in
    let r = passed (leb 18 mode && mode_ok mode) _ 3 (omega arith) q.1 in
    let s = passed (leb (predictor_row n) above && leb 193 refs && leb (n * n) pred) _ 5 (omega arith) r.1 in
    let t = passed (leb first end && leb end n) _ 11 (omega arith) s.1 in
    let u = both_true (leb first end) (leb end n) t.0 in
    let m = both_true (leb 18 mode) (mode_ok mode) r.0 in
    let a = both_true _ (leb (n * n) pred) s.0 in
    let b = both_true (leb (predictor_row n) above) (leb 193 refs) a.0 in
    let size = size_of n q.0 in
    let top : mode ≤ 34 = leb-true mode 34 m.1 in
    record {
      size = size;
      low = leb-true 18 mode m.0;
      high = omega arith;
      above = leb-true _ _ b.0;
      refs = let h : 193 ≤ refs = leb-true _ _ b.1 in omega (arith, size_small n size);
      room = leb-true _ _ a.1;
      part = let h : first ≤ end = leb-true _ _ u.0 in let k : end ≤ n = leb-true _ _ u.1 in omega arith;
      ordered = leb-true _ _ u.0;
    }
