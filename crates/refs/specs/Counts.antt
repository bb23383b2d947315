-- The rows of a block from how far its neighbours reach: the form that the code goes by. Every rule whose neighbours are counted so has
-- these rows. Assumes nothing.
use Rattle.std.specs.Prelude.{◌≡◌, Bool, true, false, List, ℕ, ◌+◌, ◌-◌, ◌*◌, ◌≤◌, ◌<◌, ltb, ℤ, length, get_or, replicate}
use Rattle.std.proofs.Common.{sym, ◌∙◌, ext_get_or}
use Rattle.std.proofs.Math.Path.{ap, ap₂}
use Rattle.std.proofs.Math.Bool.{cond}
use Rattle.std.proofs.Math.Logic.{⊎_elim}
use native.Mathlib.Omega.{arith}
use Rattle.std.proofs.lemmas.List.{length-replicate}
use borrow.Author.Tests.{lt-ltb, le-ltb}
use Rattle.laws.specs.Fill.{fill}
use Rattle.laws.specs.FillLaws.{length_fill, fill_at, fill_past, fill_same}
use Rattle.laws.specs.Diff.{order}
use Rattle.laws.specs.Choose.{if_yes, if_no}
use Rattle.h265.specs.Substitution.{first_marked}
use Rattle.order.specs.declared.Reach.{Reach}
use Rattle.order.specs.Reach.{corner_has, above_has, left_has}
use Rattle.domain.specs.declared.rows.Rows.{Rows}
use Rattle.domain.specs.rows.Neighbours.{level_rows}
use Rattle.refs.specs.substitution.Substitution.{flags_on, samples_on, substituted}
use Rattle.refs.specs.Gather.{flags_by, samples_by, gathered_by}
use Rattle.refs.specs.substitution.Line.{on_left, on_corner, on_above, any_by, start_by, left_by, corner_by, rest_by, above_by}
use Rattle.refs.specs.substitution.Line.{CountedLine, told, settled_left, settled_corner, settled_above, starts, nothing}

-- the samples of a block's neighbours
abbrev pub above_at : (ℕ → ℕ → ℕ) → ℕ → ℕ → ℕ → ℕ
above_at sample row col i = sample (row - 1) (col + i)

abbrev pub left_at : (ℕ → ℕ → ℕ) → ℕ → ℕ → ℕ → ℕ
left_at sample row col i = sample (row + i) (col - 1)

abbrev pub corner_at : (ℕ → ℕ → ℕ) → ℕ → ℕ → ℕ
corner_at sample row col = sample (row - 1) (col - 1)

-- From the samples of the corner c, of the row above and of the left column: what stands before the first that is there, in the corner,
-- and after the last one of the row above
abbrev pub start_of : Reach → ℕ → (ℕ → ℕ) → (ℕ → ℕ) → ℕ
start_of r c above left = start_by r.corner r.left left c above

abbrev pub corner_of : Reach → ℕ → (ℕ → ℕ) → ℕ → ℕ
corner_of r c left start = corner_by r.corner r.left left c start

abbrev pub rest_of : Reach → (ℕ → ℕ) → ℕ → ℕ
rest_of r above corner = rest_by r.above above corner

-- an edge: of its first count entries have are at, the others rest; 0 past them
unfoldable pub padded_edge : ℕ → ℕ → (ℕ → ℕ) → ℕ → List ℕ
padded_edge count have at rest = fill (λ i. cond (ltb i have) (at i) rest) count (replicate 65 0)

-- the rows where a neighbour is there, and where none is
abbrev pub reached : Reach → ℕ → (ℕ → ℕ) → (ℕ → ℕ) → ℕ → Rows
reached r c above left n =
    let start = start_of r c above left in
    let corner = corner_of r c left start in
    record {
      corner = corner;
      above = padded_edge (2 * n + 1) r.above above (rest_of r above corner);
      left = padded_edge (2 * n + 1)
          r.left left start;
    }

unfoldable pub from_reach : Reach → ℕ → (ℕ → ℕ) → (ℕ → ℕ) → ℕ → ℕ → Rows
from_reach r c above left n neutral = cond (any_by r.corner r.above r.left) (reached r c above left n) (level_rows neutral)

-- the neighbours that a rule tells to be there, counted
pub record Counted (has : ℤ → ℤ → Bool) (row col n : ℕ) (r : Reach) : Type 0 where
  pub corner : corner_has has row col ≡ r.corner
  pub above : (i : ℕ) → i ≤ 2 * n → above_has has row col i ≡ ltb i r.above
  pub left : (i : ℕ) → i ≤ 2 * n → left_has has row col i ≡ ltb i r.left
  pub above_few : r.above ≤ 2 * n + 1
  pub left_few : r.left ≤ 2 * n + 1

-- a second fill over a first
fill_over : {A : Type 0} (f g h : ℕ → A) (k : ℕ) (d : List A) (z : A) → ((i : ℕ) → i < k → f i ≡ h i) → fill f k (fill g k d) ≡ fill h k d
fill_over f g h k d z same =
    fill_same f h k (fill g k d) same ∙ ext_get_or z (fill h k (fill g k d)) (fill h k d)
    (length_fill h k (fill g k d) ∙ length_fill g k d ∙ sym (length_fill h k d))
    (λ i l.
    let m : i < length d = omega (arith, length_fill h k (fill g k d), length_fill g k d) in
    ⊎_elim (λ s. fill_at h k (fill g k d) i z s (omega (arith, length_fill g k d)) ∙ sym (fill_at h k d i z s m))
    (λ s. fill_past h k (fill g k d) i z s ∙ fill_past g k d i z s ∙ sym (fill_past h k d i z s))
    (order i k))

module _ (has : ℤ → ℤ → Bool) (sample : ℕ → ℕ → ℕ) (row col n : ℕ) (r : Reach) (small : n ≤ 32) (known : Counted has row col n r) where
  abbrev marks : ℕ → Bool
  marks = flags_on (flags_by has row col n) (2 * n)

  abbrev values : ℕ → ℕ
  values = samples_on (samples_by has sample row col n) (2 * n)

  -- entry i of a row of 65 that is filled up to 2n
  entry : {A : Type 0} (f : ℕ → A) (z : A) (i : ℕ) → i ≤ 2 * n → get_or (fill f (2 * n + 1) (replicate 65 z)) i z ≡ f i
  entry f z i h = fill_at f (2 * n + 1) (replicate 65 z) i z (omega arith) (omega (arith, length-replicate 65 z))

  counted_line : CountedLine (2 * n) r.left r.above r.corner (left_at sample row col) (above_at sample row col)
      (corner_at sample row col) marks values
  counted_line =
      record {
        few = known.left_few;
        left_marked = λ k h. on_left _ _ _ (2 * n) k h ∙ entry (left_has has row col) false (2 * n - k) (omega arith)
            ∙ known.left (2 * n - k) (omega arith);
        corner_marked = on_corner _ _ _ (2 * n) ∙ known.corner;
        above_marked = λ i h. on_above _ _ _ (2 * n) i ∙ entry (above_has has row col) false i h ∙ known.above i h;
        left_value = λ k h m. on_left _ _ _ (2 * n) k h ∙ entry _ 0 (2 * n - k) (omega arith)
            ∙ simp (known.left (2 * n - k) (omega arith), lt-ltb (2 * n - k) r.left m);
        corner_value = λ t. on_corner _ _ _ (2 * n) ∙ simp (known.corner, t);
        above_value = λ i h m. on_above _ _ _ (2 * n) i ∙ entry _ 0 i h ∙ simp (known.above i h, lt-ltb i r.above m);
      }

  abbrev first : ℕ
  first = first_marked marks 0 (2 * (2 * n) + 3)

  abbrev c : ℕ
  c = corner_at sample row col

  abbrev above : ℕ → ℕ
  above = above_at sample row col

  abbrev left : ℕ → ℕ
  left = left_at sample row col

  some : (neutral : ℕ) → any_by r.corner r.above r.left ≡ true → gathered_by has sample row col n neutral ≡ reached r c above left n
  unfolding gathered_by substituted padded_edge
  some neutral any =
      let s = starts counted_line any in
      simp (lt-ltb first (2 * (2 * n) + 3) s.0)
      (λ i.
      record {
        corner = (settled_corner counted_line first ∙ ap (corner_of r c left) s.1) i;
        above =
            fill_over _ (λ (k : ℕ). cond (above_has has row col k) (above k) 0) _ (2 * n + 1) (replicate 65 0) 0
            (λ j l. settled_above counted_line first j (omega arith)
            ∙ ap (λ (v : ℕ). above_by r.above above (rest_of r above (corner_of r c left v)) j) s.1) i;
        left =
            fill_over _ (λ (k : ℕ). cond (left_has has row col k) (left k) 0) _ (2 * n + 1) (replicate 65 0) 0
            (λ j l. settled_left counted_line first (2 * n - j) (omega arith)
            ∙ ap₂ (left_by r.left left) s.1 (let q : 2 * n - (2 * n - j) ≡ j = omega arith in q)) i;
      })

  none : (neutral : ℕ) → any_by r.corner r.above r.left ≡ false → gathered_by has sample row col n neutral ≡ level_rows neutral
  unfolding gathered_by substituted
  none neutral gone = simp (nothing counted_line gone, le-ltb (2 * (2 * n) + 3) (2 * (2 * n) + 3) (omega arith))

  -- the definition and the code's form agree
  pub from-reach : (neutral : ℕ) → gathered_by has sample row col n neutral ≡ from_reach r c above left n neutral
  unfolding from_reach
  from-reach neutral =
      let b = any_by r.corner r.above r.left in
      let g = gathered_by has sample row col n neutral in
      ⊎_elim (λ any. if_yes b (reached r c above left n) (level_rows neutral) g any (some neutral any))
      (λ gone. if_no b (reached r c above left n) (level_rows neutral) g gone (none neutral gone))
      (told b)
