-- The number of a call to each kind of predictor, from document 01's table. Rests on the domain.
use Rattle.std.specs.Prelude.{◌≡◌, true, ℕ, ◌*◌, ◌≤◌, Bool, ◌&&◌, [], ◌∷◌, leb}
use Rattle.std.proofs.Common.{arith, leb-true}
use Rattle.laws.specs.Choose.{◌unless◌, first_fail, passed, both_true}
use Rattle.domain.specs.Domain.{depth_ok, size_ok, mode_ok, predictor_row}
use Rattle.domain.specs.Facts.{Size, at_size}
use Rattle.predict.specs.declared.refusals.Lent.{Lent}

-- planar and DC: the side is n, the rows have a and l entries, the block's buffer p
unfoldable pub flat_no : ℕ → ℕ → ℕ → ℕ → ℕ
flat_no n a l p =
    first_fail ((2 unless size_ok n) ∷ (5 unless (leb (predictor_row n) a && leb (predictor_row n) l && leb (n * n) p)) ∷ [])

-- the lengths of what a call lends
pub record Lengths : Type 0 where
  pub above : ℕ
  pub left : ℕ
  pub pred : ℕ
  pub refs : ℕ
  pub indices : ℕ
  pub fractions : ℕ

abbrev pub lengths : ℕ → ℕ → ℕ → ℕ → ℕ → ℕ → Lengths
lengths above left pred refs indices fractions =
    record { above = above; left = left; pred = pred; refs = refs; indices = indices; fractions = fractions }

-- as the checks are handed them
abbrev pub lent_by : ℕ → ℕ → ℕ → ℕ → ℕ → ℕ → Lent
lent_by above left pred refs indices fractions =
    record { above = above; left = left; pred = pred; refs = refs; indices = indices; fractions = fractions }

abbrev pub lengths_of : Lent → Lengths
lengths_of l = lengths l.above l.left l.pred l.refs l.indices l.fractions

-- whether they are enough
abbrev pub is_enough : ℕ → Lengths → Bool
is_enough n l =
    leb (predictor_row n) l.above && leb (predictor_row n) l.left && leb (n * n) l.pred
    && leb 193 l.refs && leb 32 l.indices && leb 32 l.fractions

-- a block where tables are lent too: the depth, the side, whether the mode is one of the door's, then what is lent: each is asked for in
-- every mode
abbrev pub block_no : ℕ → ℕ → Bool → Lengths → ℕ
block_no bits n serves l =
    first_fail ((1 unless depth_ok bits) ∷ (2 unless size_ok n) ∷ (3 unless serves) ∷ (5 unless is_enough n l) ∷ [])

-- angular prediction
abbrev pub angular_no : ℕ → ℕ → ℕ → Lengths → ℕ
angular_no bits n mode l = block_no bits n (leb 2 mode && mode_ok mode) l

-- a block in any mode
abbrev pub predict_no : ℕ → ℕ → ℕ → Lengths → ℕ
predict_no bits n mode l = block_no bits n (mode_ok mode) l

-- what such a block has where it is served
pub record Told (bits n : ℕ) (serves : Bool) (l : Lengths) : Type 0 where
  pub depth : depth_ok bits ≡ true
  pub size : size_ok n ≡ true
  pub mode : serves ≡ true
  pub above : 2 * n ≤ l.above
  pub left : 2 * n ≤ l.left
  pub pred : n * n ≤ l.pred
  pub refs : 193 ≤ l.refs

pub told : (bits n : ℕ) (serves : Bool) (l : Lengths) → block_no bits n serves l ≡ 0 → Told bits n serves l
told bits n serves l e =
    let p = passed (depth_ok bits) _ 1 (omega arith) e in
    let q = passed (size_ok n) _ 2 (omega arith) p.1 in
    let r = passed serves _ 3 (omega arith) q.1 in
    let s = passed (is_enough n l) _ 5 (omega arith) r.1 in
    let a = both_true _ (leb 32 l.fractions) s.0 in
    let b = both_true _ (leb 32 l.indices) a.0 in
    let c = both_true _ (leb 193 l.refs) b.0 in
    let d = both_true _ (leb (n * n) l.pred) c.0 in
    let f = both_true (leb (predictor_row n) l.above) (leb (predictor_row n) l.left) d.0 in
    record {
      depth = p.0;
      size = q.0;
      mode = r.0;
      above = leb-true _ _ f.0;
      left = leb-true _ _ f.1;
      pred = leb-true _ _ d.1;
      refs = leb-true _ _ c.1;
    }

-- a vertical mode: its references, and its rows from first to end, which is not among them
abbrev pub vertical_ok : ℕ → Bool
vertical_ok mode = leb 18 mode && mode_ok mode

unfoldable pub refs_no : ℕ → ℕ → ℕ → ℕ → ℕ → ℕ
refs_no n mode above left refs =
    first_fail
    ((2 unless size_ok n) ∷ (3 unless vertical_ok mode)
    ∷ (5 unless (leb (predictor_row n) above && leb (predictor_row n) left && leb 193 refs)) ∷ [])

unfoldable pub rows_no : ℕ → ℕ → ℕ → ℕ → ℕ → ℕ → ℕ → ℕ
rows_no n mode first end above refs pred =
    first_fail
    ((2 unless size_ok n) ∷ (3 unless vertical_ok mode)
    ∷ (5 unless (leb (predictor_row n) above && leb 193 refs && leb (n * n) pred))
    ∷ (11 unless (leb first end && leb end n)) ∷ [])

-- the square of a side is small
pub square : (n : ℕ) → Size n → n * n ≤ 1024
square n s = at_size (λ (m : ℕ). m * m ≤ 1024) (omega arith) (omega arith) (omega arith) (omega arith) n s
