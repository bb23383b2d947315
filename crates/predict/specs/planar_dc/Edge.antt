-- The DC block as its stores: the value everywhere, then the edge. Rests on the standard's clause.
use Rattle.std.specs.Prelude.{ℕ, ◌<◌, ◌≡◌, refl, Bool, true, false, ◌&&◌, List, eqb, set}
use Rattle.std.proofs.Math.Bool.{cond}
use Rattle.std.proofs.Common.{arith}
use Rattle.std.proofs.Math.Dec.{ltb}
use borrow.Author.Tests.{lt-ltb, eqb-true}
use Rattle.laws.specs.Fill.{run, block}
use Rattle.laws.specs.FillLaws.{rows_same}
use Rattle.h265.specs.Notation.{Neighbours}
use Rattle.h265.specs.Dc.{dc_val, dc}
use Rattle.samples.specs.taps.Taps.{blended, cornered}
use Rattle.predict.specs.planar_dc.Stores.{heads, rows_put, run_rows, heads_rows}

-- the first row, then the first column, then the corner
unfoldable pub edges : (ℕ → ℕ) → (ℕ → ℕ) → ℕ → ℕ → List ℕ → List ℕ
edges above left v n d =
    set (heads (λ (y : ℕ). blended (left y) v) n n (run (λ (x : ℕ). blended (above x) v) 0 n d)) 0 (cornered (left 0) (above 0) v)

-- column 0 before row 0, but for the corner
apart : (i j : Bool) (l t k v : ℕ) → (i ≡ true → j ≡ true → ⊥) → cond (i && true) l (cond (j && true) t v)
    ≡ cond i (cond j k l) (cond j t v)
apart true true l t k v h = absurd (h refl refl)
apart true false l t k v h = refl
apart false true l t k v h = refl
apart false false l t k v h = refl

module _ (edge : Bool) (n v : ℕ) (nb : Neighbours) (d : List ℕ) (h : 0 < n) (e : v ≡ dc_val n nb) where
  pub plain : (edge && ltb n 32) ≡ false → block (λ (y x : ℕ). v) n d ≡ block (λ (y x : ℕ). dc edge n nb x y) n d
  unfolding dc
  plain off = rows_same _ _ n n d (λ y x hy hx. rw off e) h

  pub edged : (edge && ltb n 32) ≡ true → edges nb.above nb.left v n (block (λ (y x : ℕ). v) n d)
      ≡ block (λ (y x : ℕ). dc edge n nb x y) n d
  unfolding edges dc
  edged on =
      rw (run_rows (λ (x : ℕ). blended (nb.above x) v) (λ (y x : ℕ). v) n n n d h h (omega arith))
      (rw (heads_rows (λ (y : ℕ). blended (nb.left y) v) (λ (y x : ℕ). cond (eqb y 0 && ltb x n) (blended (nb.above x) v) v) n n n d h
      (omega arith))
      (rows_put _ (λ (y x : ℕ). dc edge n nb x y) n n d 0 0 0 (cornered (nb.left 0) (nb.above 0) v) (omega arith) h h (rw (on, e)) one))
    where
      one : (y x : ℕ) → y < n → x < n → (y ≡ 0 → x ≡ 0 → ⊥)
          → cond (eqb x 0 && ltb y n) (blended (nb.left y) v) (cond (eqb y 0 && ltb x n) (blended (nb.above x) v) v) ≡ dc edge n nb x y
      one y x hy hx q =
          rw (lt-ltb y n hy, lt-ltb x n hx, on, e)
          (apart (eqb x 0) (eqb y 0) _ _ (cornered (nb.left 0) (nb.above 0) (dc_val n nb)) _ (λ i j. q (eqb-true y 0 j) (eqb-true x 0 i)))
