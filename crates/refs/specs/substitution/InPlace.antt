-- The rows filled where they stand: left from its far end, then the corner, then above. Each goes by its own entries and what is
-- carried to it; together they are the line's places in the end. Assumes nothing.
use Rattle.std.specs.Prelude.{◌≡◌, Bool, false, cond, List, set}
use Rattle.std.proofs.Math.Path.{refl, ap}
use Rattle.std.proofs.Common.{◌∙◌}
use Prim.Native.Nat.{ℕ, zero, suc, ◌+◌, ◌-◌, ◌≤◌}
use native.Mathlib.Omega.{arith}
use Rattle.std.proofs.Math.ListN.{get_or}
use Rattle.laws.specs.Fill.{fill}
use Rattle.laws.specs.FillLaws.{fill_more, fill_past, fill_same}
use Rattle.h265.specs.Substitution.{settled}
use Rattle.domain.specs.declared.rows.Rows.{Rows}
use Rattle.refs.specs.substitution.Substitution.{marked_on_line, samples_on, from_line}
use Rattle.refs.specs.substitution.Line.{on_left, on_corner, on_above, carried_to, carried_next, settled_is}
use Rattle.refs.specs.substitution.FarEnd.{fill_down, down_more, down_before}

-- the left row from its entry e down and the row above from its entry 0 on: what is carried past k entries, and the row in the end
abbrev pub past_left : List Bool → List ℕ → ℕ → ℕ → ℕ → ℕ
past_left has row e start k = carried_to (λ p. get_or has (e - p) false) (λ p. get_or row (e - p) 0) start k

abbrev pub past_above : List Bool → List ℕ → ℕ → ℕ → ℕ
past_above has row start k = carried_to (λ p. get_or has p false) (λ p. get_or row p 0) start k

abbrev pub left_settled : List Bool → ℕ → ℕ → List ℕ → List ℕ
left_settled has e start row = fill (λ i. past_left has row e start (e - i + 1)) (e + 1) row

abbrev pub above_settled : List Bool → ℕ → ℕ → List ℕ → List ℕ
above_settled has e start row = fill (λ i. past_above has row start (i + 1)) (e + 1) row

-- the left row after k entries from its far end: what is carried on, and the row so far
abbrev pub LeftSoFar : List Bool → List ℕ → ℕ → ℕ → ℕ → ℕ → List ℕ → Type 0
LeftSoFar has row e start k carried so_far =
    (carried ≡ past_left has row e start k) × (so_far ≡ fill_down (λ i. past_left has row e start (e - i + 1)) e k row)

-- a turn of each loop
module _ (has : List Bool) (start : ℕ) (row : List ℕ) {carried next : ℕ} {so_far later : List ℕ} where
  pub left_turn : (e i : ℕ) → i ≤ e → LeftSoFar has row e start (e - i) carried so_far
      → next ≡ cond (get_or has i false) (get_or so_far i 0) carried → later ≡ set so_far i next
      → LeftSoFar has row e start (e - i + 1) next later
  left_turn e i h (is_Carried, is_row) is-next is_later =
      (on, is_later ∙ ap (λ (j : ℕ). set so_far j next) here ∙ down_more _ e row (e - i) is_row (on ∙ back))
    where
      here : i ≡ e - (e - i)
      here = omega arith

      own : get_or so_far (e - (e - i)) 0 ≡ get_or row (e - (e - i)) 0
      own = ap (λ (t : List ℕ). get_or t (e - (e - i)) 0) is_row ∙ down_before _ e row (e - i) (e - (e - i)) 0 (omega arith)

      on : next ≡ past_left has row e start (e - i + 1)
      on = carried_next _ _ start (e - i) is_Carried (is-next ∙ ap (λ (j : ℕ). cond (get_or has j false) (get_or so_far j 0) carried) here
          ∙ ap (λ (v : ℕ). cond (get_or has (e - (e - i)) false) v carried) own)

      back : past_left has row e start (e - i + 1) ≡ past_left has row e start (e - (e - (e - i)) + 1)
      back = let q : e - i + 1 ≡ e - (e - (e - i)) + 1 = omega arith in ap (past_left has row e start) q

  pub above_turn : (i : ℕ) → carried ≡ past_above has row start i → so_far ≡ fill (λ (j : ℕ). past_above has row start (j + 1)) i row
      → next ≡ cond (get_or has i false) (get_or so_far i 0) carried → later ≡ set so_far i next
      → (next ≡ past_above has row start (i + 1)) × (later ≡ fill (λ (j : ℕ). past_above has row start (j + 1)) (i + 1) row)
  above_turn i is_Carried is_row is-next is_later = (on, is_later ∙ fill_more _ row is_row on)
    where
      own : get_or so_far i 0 ≡ get_or row i 0
      own = ap (λ (t : List ℕ). get_or t i 0) is_row ∙ fill_past _ i row i 0 (omega arith)

      on : next ≡ past_above has row start (i + 1)
      on = carried_next _ _ start i is_Carried (is-next ∙ ap (λ (v : ℕ). cond (get_or has i false) v carried) own)

-- both rows and the corner
module _ (has_left has_above : List Bool) (there : Bool) (rows : Rows) (e found : ℕ) where
  abbrev marks_on : ℕ → Bool
  marks_on = marked_on_line (λ i. get_or has_left i false) there (λ i. get_or has_above i false) e

  abbrev first_on : ℕ
  first_on = samples_on rows e found

  abbrev past_on : ℕ → ℕ
  past_on = carried_to marks_on (samples_on rows e) first_on

  past-left : (k : ℕ) → k ≤ e + 1 → past_left has_left rows.left e first_on k ≡ past_on k
  unfolding carried_to
  past-left zero h = refl
  past-left (suc k) h =
      simp (
        on_left (λ i. get_or has_left i false) (λ i. get_or has_above i false) there e k (omega arith),
        on_left (λ i. get_or rows.left i 0) (λ i. get_or rows.above i 0) rows.corner e k (omega arith),
        past-left k (omega arith),
      )

  past_corner : cond there rows.corner (past_left has_left rows.left e first_on (e + 1)) ≡ past_on (e + 1 + 1)
  past_corner =
      carried_next marks_on (samples_on rows e) first_on (e + 1) (past-left (e + 1) (omega arith))
      (simp (
        on_corner (λ i. get_or has_left i false) (λ i. get_or has_above i false) there e,
        on_corner (λ i. get_or rows.left i 0) (λ i. get_or rows.above i 0) rows.corner e,
      ))

  past-above : {corner : ℕ} → corner ≡ past_on (e + 1 + 1) → (k : ℕ) → past_above has_above rows.above corner k ≡ past_on (e + 2 + k)
  unfolding carried_to
  past-above is zero = let q : e + 1 + 1 ≡ e + 2 + 0 = omega arith in is ∙ ap past_on q
  past-above is (suc k) =
      let q : e + 2 + k + 1 ≡ e + 2 + suc k = omega arith in
      carried_next marks_on (samples_on rows e) first_on (e + 2 + k) (past-above is k)
      (simp (
        on_above (λ i. get_or has_left i false) (λ i. get_or has_above i false) there e k,
        on_above (λ i. get_or rows.left i 0) (λ i. get_or rows.above i 0) rows.corner e k,
      ))
      ∙ ap past_on q

  pub settled_rows : {first beside corner : ℕ} {above left : List ℕ} → first ≡ first_on
      → beside ≡ past_left has_left rows.left e first (e + 1) → left ≡ left_settled has_left e first rows.left
      → corner ≡ cond there rows.corner beside → above ≡ above_settled has_above e corner rows.above
      → ◌≡◌ {A = Rows} (record { corner = corner; above = above; left = left }) (from_line e (settled marks_on (samples_on rows e) found) rows)
  settled_rows {first} {beside} {corner} is-first is-beside is-left is-corner is-above =
      λ i.
      record {
        corner = (is ∙ settled_is marks_on (samples_on rows e) found (e + 1)) i;
        above = (is-above ∙ fill_same _ _ (e + 1) rows.above (λ j l. past-above is (j + 1) ∙ after j)) i;
        left =
            (is-left ∙ ap (λ (s : ℕ). left_settled has_left e s rows.left) is-first ∙ fill_same _ _ (e + 1) rows.left
            (λ j l. past-left (e - j + 1) (omega arith) ∙ settled_is marks_on (samples_on rows e) found (e - j)))
            i;
      }
    where
      is : corner ≡ past_on (e + 1 + 1)
      is =
          is-corner
          ∙ ap (cond there rows.corner) (is-beside ∙ ap (λ (s : ℕ). past_left has_left rows.left e s (e + 1)) is-first)
          ∙ past_corner

      after : (j : ℕ) → past_on (e + 2 + (j + 1)) ≡ settled marks_on (samples_on rows e) found (e + 2 + j)
      after j =
          let q : e + 2 + (j + 1) ≡ e + 2 + j + 1 = omega arith in ap past_on q ∙ settled_is marks_on (samples_on rows e) found (e + 2 + j)
