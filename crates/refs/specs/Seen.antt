-- The samples that are there, as they are read out of a plane, and the rows made of these values alone, whatever held them. Assumes
-- nothing.
use Rattle.std.specs.Prelude.{◌≡◌, Bool, true, false, ◌||◌, List, [], ◌∷◌, ℕ, zero, suc, ◌+◌, ◌-◌, ◌*◌, ◌≤◌, ◌<◌, ltb}
use Rattle.std.specs.Prelude.{length, get_or, set, replicate, take, drop}
use Rattle.std.proofs.Math.Path.{refl, ap}
use Rattle.std.proofs.Common.{sym, ◌∙◌, subst, lt-ltb, le-ltb, ltb-true, add-one}
use Rattle.std.proofs.Math.Bool.{cond}
use Rattle.std.proofs.lemmas.Bool.{false≢true}
use native.Mathlib.Omega.{arith}
use Rattle.std.proofs.lemmas.List.{length-replicate, length-take, length-drop}
use Rattle.std.proofs.lemmas.List.Edits.{paste_none, fill_from_more}
use Rattle.std.proofs.lemmas.Slice.{put_mid-paste}
use borrow.Rule.Slice.PartMut.{put_mid}
use lib.Seq.{paste}
use Rattle.laws.specs.Choose.{if_yes, if_no}
use Rattle.laws.specs.Fill.{fill, run}
use Rattle.laws.specs.FillLaws.{fill_at, fill_same, fill_run, run_more}
use Rattle.order.specs.declared.Reach.{Reach}
use Rattle.domain.specs.declared.rows.Rows.{Rows}
use Rattle.refs.specs.declared.Spot.{Spot}
use Rattle.domain.specs.rows.Neighbours.{level_rows}
use Rattle.refs.specs.substitution.Line.{any_by}
use Rattle.refs.specs.Spots.{corner_on, above_on_plane, left_on, plane_rows, Few}
use Rattle.refs.specs.Counts.{start_of, corner_of, rest_of, padded_edge, reached, from_reach}

-- the entries of an edge that are there, and the corner; 0 where none is
abbrev pub edge_seen : ℕ → (ℕ → ℕ) → List ℕ
edge_seen have at = fill at have (replicate 65 0)

abbrev pub corner_seen : Reach → ℕ → ℕ
corner_seen r c = cond r.corner c 0

abbrev pub entry_in : List ℕ → ℕ → ℕ
entry_in row i = get_or row i 0

-- an edge whose entries from have on, up to count, are rest
abbrev pub padded : ℕ → ℕ → ℕ → List ℕ → List ℕ
padded count have rest row = run (λ i. rest) have (count - have) row

-- so it is where that part is filled in
pasted : (v a k : ℕ) (d : List ℕ) → a + k ≤ length d → paste d a (replicate k v) k ≡ run (λ i. v) a k d
unfolding run
pasted v a zero d h = sym (paste_none d a [])
pasted v a (suc k) d h =
    subst (λ (m : ℕ). paste d a (replicate m v) m ≡ run (λ (i : ℕ). v) a m d) (add-one k)
    (sym (fill_from_more d a k v (omega arith)) ∙ run_more (λ (i : ℕ). v) a d (pasted v a k d (omega arith)) refl)

pub padded_by : (count have rest : ℕ) (row : List ℕ) {part : List ℕ} → have ≤ count → count ≤ length row
    → part ≡ replicate (length (take (count - have) (drop have row))) rest
    → put_mid have (count - have) row part ≡ padded count have rest row
padded_by count have rest row {part} h m e =
    let k : length (take (count - have) (drop have row)) ≡ count - have =
    omega (arith, length-take (count - have) (drop have row), length-drop have row) in
    put_mid-paste have (count - have) row part (replicate (count - have) rest) (count - have)
    (e ∙ ap (λ (i : ℕ). replicate i rest) k) refl (sym (length-replicate (count - have) rest))
    ∙ pasted rest have (count - have) row (omega arith)

-- a plane's two rows, above and left, with their corner
abbrev pub with_corner : ℕ → List (List ℕ) → Rows
with_corner c two = record { corner = c; above = get_or two 0 []; left = get_or two 1 [] }

-- rows completed, of what was read
unfoldable pub pad_rows : Reach → Rows → ℕ → Rows
pad_rows r seen n =
    let start = start_of r seen.corner (entry_in seen.above) (entry_in seen.left) in
    let corner = corner_of r seen.corner (entry_in seen.left) start in
    record {
      corner = corner;
      above = padded (2 * n + 1) r.above (rest_of r (entry_in seen.above) corner) seen.above;
      left = padded (2 * n + 1) r.left start seen.left;
    }

-- two answers by one test
by_test : {A : Type 0} (b : Bool) {x y z w : A} → (b ≡ true → x ≡ z) → (b ≡ false → y ≡ w) → cond b x y ≡ cond b z w
by_test true p q = p refl
by_test false p q = q refl

-- where neither the left column nor the corner has one, the row above has
pub only_above : (a b c : Bool) → (a || b || c) ≡ true → a ≡ false → b ≡ false → c ≡ true
only_above true b c h p q = absurd (false≢true (sym p))
only_above false true c h p q = absurd (false≢true (sym q))
only_above false false c h p q = h

-- an entry that is there is read as it is
seen_at : (have : ℕ) (at : ℕ → ℕ) (i : ℕ) → have ≤ 65 → i < have → entry_in (edge_seen have at) i ≡ at i
seen_at have at i h l = fill_at at have (replicate 65 0) i 0 l (omega (arith, length-replicate {A = ℕ} 65 0))

-- padding what was read makes the edge
module _ (have : ℕ) (at : ℕ → ℕ) (rest : ℕ) where
  abbrev on : ℕ → ℕ
  on i = cond (ltb i have) (at i) rest

  pub pad_edge : (count : ℕ) → have ≤ count → padded count have rest (edge_seen have at) ≡ padded_edge count have at rest
  unfolding padded_edge
  pad_edge count h =
      ap (run (λ i. rest) have (count - have)) (fill_same at on have (replicate 65 0)
      (λ i l. ap (λ (b : Bool). cond b (at i) rest) (sym (lt-ltb i have l))))
      ∙ fill_run on (λ i. rest) have (count - have) (replicate 65 0)
      (λ j l. ap (λ (b : Bool). cond b (at (have + j)) rest) (sym (le-ltb (have + j) have (omega arith))))
      ∙ ap (λ (k : ℕ). fill on k (replicate 65 0)) (let q : have + (count - have) ≡ count = omega arith in q)

module _ (r : Reach) (c : ℕ) (above left : ℕ → ℕ) (n : ℕ) (small : n ≤ 32) (ha : r.above ≤ 2 * n + 1) (hl : r.left ≤ 2 * n + 1) where
  abbrev a : ℕ → ℕ
  a = entry_in (edge_seen r.above above)

  abbrev l : ℕ → ℕ
  l = entry_in (edge_seen r.left left)

  corner-seen : r.corner ≡ true → corner_seen r c ≡ c
  corner-seen t = ap (λ (b : Bool). cond b c 0) t

  start : any_by r.corner r.above r.left ≡ true → start_of r (corner_seen r c) a l ≡ start_of r c above left
  start any =
      by_test (ltb 0 r.left)
      (λ t. let p = ltb-true 0 r.left t in seen_at r.left left (r.left - 1) (omega arith) (omega arith))
      (λ f. by_test r.corner corner-seen (λ g. seen_at r.above above 0 (omega arith)
      (ltb-true 0 r.above (only_above _ _ _ any f g))))

  corner : (s : ℕ) → corner_of r (corner_seen r c) l s ≡ corner_of r c left s
  corner s = by_test r.corner corner-seen (λ f. by_test (ltb 0 r.left)
      (λ t. seen_at r.left left 0 (omega arith) (ltb-true 0 r.left t)) (λ g. refl))

  rest : (k : ℕ) → rest_of r a k ≡ rest_of r above k
  rest k = by_test (ltb 0 r.above) (λ t. let p = ltb-true 0 r.above t in seen_at r.above above (r.above - 1) (omega arith)
      (omega arith)) (λ g. refl)

  -- the rows made of what was read are the rows of the samples
  padded_are : any_by r.corner r.above r.left ≡ true
      → pad_rows r (record { corner = corner_seen r c; above = edge_seen r.above above; left = edge_seen r.left left }) n
      ≡ reached r c above left n
  unfolding pad_rows
  padded_are any =
      let s = start any in
      let k = corner (start_of r (corner_seen r c) a l) ∙ ap (corner_of r c left) s in
      let z = rest (corner_of r (corner_seen r c) l (start_of r (corner_seen r c) a l)) ∙ ap (rest_of r above) k in
      λ i.
      record {
        corner = k i;
        above = (pad_edge r.above above _ (2 * n + 1) ha ∙ ap (padded_edge (2 * n + 1) r.above above) z) i;
        left = (pad_edge r.left left _ (2 * n + 1) hl ∙ ap (padded_edge (2 * n + 1) r.left left) s) i;
      }

-- so are those of what was read out of a plane
module _ (plane : List ℕ) (s : Spot) (r : Reach) (n neutral : ℕ) where
  pub finish_none : any_by r.corner r.above r.left ≡ false → level_rows neutral ≡ plane_rows plane s r n neutral
  unfolding from_reach
  finish_none gone = if_no (any_by r.corner r.above r.left) _ (level_rows neutral) (level_rows neutral) gone refl

  pub finish_some : any_by r.corner r.above r.left ≡ true → Few r n → {x y v : Rows}
      → x ≡ record {
        corner = corner_seen r (corner_on plane s);
        above = edge_seen r.above (above_on_plane plane s);
        left = edge_seen r.left
            (left_on plane s);
      }
      → y ≡ pad_rows r x n → v ≡ y → v ≡ plane_rows plane s r n neutral
  unfolding from_reach
  finish_some any f {x} {y} {v} ex ey ev =
      if_yes (any_by r.corner r.above r.left) (reached r (corner_on plane s) (above_on_plane plane s) (left_on plane s) n)
      (level_rows neutral) v any
      (ev ∙ ey ∙ ap (λ (q : Rows). pad_rows r q n) ex
      ∙ padded_are r (corner_on plane s) (above_on_plane plane s) (left_on plane s) n f.side f.above_few f.left_few any)

-- rows from their parts
pub from_parts : {c : ℕ} {a l : List ℕ} (r : Rows) → c ≡ r.corner → a ≡ r.above → l ≡ r.left
    → ◌≡◌ {A = Rows} (record { corner = c; above = a; left = l }) r
from_parts r ec ea el = λ i. record { corner = ec i; above = ea i; left = el i }

-- both rows stored anew
pub two_set : (two : List (List ℕ)) (c : ℕ) (a l : List ℕ) → length two ≡ 2 → with_corner c (set (set two 0 a) 1 l)
    ≡ record { corner = c; above = a; left = l }
two_set (_ ∷ _ ∷ _) c a l h = refl
two_set (_ ∷ []) c a l h = absurd (omega arith)
two_set [] c a l h = absurd (omega arith)

pub two_set_back : (two : List (List ℕ)) (c : ℕ) (a l : List ℕ) → length two ≡ 2 → with_corner c (set (set two 1 l) 0 a)
    ≡ record { corner = c; above = a; left = l }
two_set_back (_ ∷ _ ∷ _) c a l h = refl
two_set_back (_ ∷ []) c a l h = absurd (omega arith)
two_set_back [] c a l h = absurd (omega arith)

pub first_kept : (two : List (List ℕ)) (l : List ℕ) → get_or (set two 1 l) 0 [] ≡ get_or two 0 []
first_kept [] l = refl
first_kept (_ ∷ _) l = refl

pub second_kept : (two : List (List ℕ)) (a : List ℕ) → get_or (set two 0 a) 1 [] ≡ get_or two 1 []
second_kept [] a = refl
second_kept (_ ∷ _) a = refl
