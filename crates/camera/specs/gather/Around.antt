-- What the code reads of a plane around a block, and that the rows made of it are the gather's. Assumes nothing.
use Rattle.std.specs.Prelude.{◌≡◌, refl, true, List, ℕ, ◌+◌, ◌-◌, ◌*◌, ◌≤◌, ◌<◌, length, set, replicate}
use Rattle.std.proofs.Common.{sym, ap, ap₂, ◌∙◌, arith}
use Rattle.std.proofs.Math.Path.{subst}
use Rattle.laws.specs.Choose.{if_yes}
use Rattle.laws.specs.Fill.{fill, run}
use Rattle.laws.specs.FillLaws.{run_none, run_more}
use Rattle.order.specs.declared.Reach.{Reach}
use Rattle.domain.specs.declared.rows.Rows.{Rows}
use Rattle.domain.specs.rows.Neighbours.{level_rows}
use Rattle.refs.specs.substitution.Line.{any_by}
use Rattle.refs.specs.declared.Spot.{Spot}
use Rattle.refs.specs.Counts.{start_of, corner_of, rest_of, padded_edge, reached, from_reach}
use Rattle.refs.specs.Spots.{on_edge, corner_on, above_on_plane, left_on, plane_rows, Reads}
use Rattle.refs.specs.Seen.{padded, pad_edge}
use Rattle.camera.specs.declared.gather.Border.{Border}
use Rattle.camera.specs.declared.gather.Around.{Around}

-- an edge out of a plane, 65 entries
abbrev pub edge_in : List ℕ → Border → ℕ → List ℕ
edge_in plane e n = padded_edge (2 * n + 1) e.have (on_edge plane e.at e.step) e.rest

-- an edge as it is read into a row: what is there, then what the others have up to entry 2n
abbrev pub read_edge : List ℕ → Border → ℕ → List ℕ → List ℕ
read_edge plane e n row = padded (2 * n + 1) e.have e.rest (fill (on_edge plane e.at e.step) e.have row)

-- a loop that goes on where another ended: none, one entry more, and all
pub rest_none : (v k : ℕ) (d : List ℕ) → d ≡ run (λ j. v) k (k - k) d
rest_none v k d = run_none (λ j. v) k d ∙ ap (λ (m : ℕ). run (λ (j : ℕ). v) k m d) (let q : 0 ≡ k - k = omega arith in q)

pub rest_more : (v k i : ℕ) (d : List ℕ) {e : List ℕ} → k ≤ i → e ≡ run (λ j. v) k (i - k) d → set e i v ≡ run (λ j. v) k (i + 1 - k) d
rest_more v k i d {e} h p =
    ap (λ (j : ℕ). set e j v) (let q : i ≡ k + (i - k) = omega arith in q) ∙ run_more (λ j. v) k d p refl
    ∙ ap (λ (j : ℕ). run (λ (m : ℕ). v) k j d) (let q : i - k + 1 ≡ i + 1 - k = omega arith in q)

pub edge_read : (plane : List ℕ) (e : Border) (n : ℕ) (d : List ℕ) {k i : ℕ} {x y : List ℕ} → k ≡ e.have → i ≡ 2 * n + 1 → x
    ≡ fill (on_edge plane e.at e.step) k d
    → y ≡ run (λ j. e.rest) k (i - k) x → y ≡ read_edge plane e n d
edge_read plane e n d {k} {i} ek ei ex ey =
    ey ∙ ap (run (λ (j : ℕ). e.rest) k (i - k)) ex
    ∙ ap₂ (λ (a b : ℕ). run (λ (j : ℕ). e.rest) a (b - a) (fill (on_edge plane e.at e.step) a d)) ek ei

-- an edge that has no more than 2n + 1 entries, all of them in a plane of len samples
pub record Kept (e : Border) (len n : ℕ) : Type 0 where
  pub side : n ≤ 32
  pub few : e.have ≤ 2 * n + 1
  pub inside : (i : ℕ) → i < e.have → e.at + i * e.step < len

-- the corner and both edges, where a neighbour is there
unfoldable pub around_of : List ℕ → Spot → Reach → Around
around_of plane s r =
    let start = start_of r (corner_on plane s) (above_on_plane plane s) (left_on plane s) in
    let corner = corner_of r (corner_on plane s) (left_on plane s) start in
    record {
      corner = corner;
      above = record { at = s.above; step = 1; have = r.above; rest = rest_of r (above_on_plane plane s) corner };
      left = record { at = s.left; step = s.width; have = r.left; rest = start };
    }

-- it is made of three values
pub around_made : (plane : List ℕ) (s : Spot) (r : Reach) {start corner rest : ℕ} {a : Around} → start
    ≡ start_of r (corner_on plane s) (above_on_plane plane s) (left_on plane s)
    → corner ≡ corner_of r (corner_on plane s) (left_on plane s) start → rest ≡ rest_of r (above_on_plane plane s) corner
    → a ≡ record {
      corner = corner;
      above = record { at = s.above; step = 1; have = r.above; rest = rest };
      left = record
          { at = s.left; step = s.width; have = r.left; rest = start };
    }
    → a ≡ around_of plane s r
unfolding around_of
around_made plane s r es ec er ea =
    let k = ec ∙ ap (corner_of r (corner_on plane s) (left_on plane s)) es in
    let z = er ∙ ap (rest_of r (above_on_plane plane s)) k in
    ea
    ∙ (λ i.
    record {
      corner = k i;
      above = record { at = s.above; step = 1; have = r.above; rest = z i };
      left = record { at = s.left; step = s.width; have = r.left; rest = es i };
    })

-- the rows of it, as lists
abbrev pub rows_of : List ℕ → ℕ → Around → Rows
rows_of plane n a = record { corner = a.corner; above = edge_in plane a.above n; left = edge_in plane a.left n }

module _ (plane : List ℕ) (s : Spot) (r : Reach) (n : ℕ) {a : Around} (ea : a ≡ around_of plane s r) where
  -- no edge reaches past its 2n + 1 entries or out of the plane
  pub around_kept : {len : ℕ} → Reads r s len n → Kept a.above len n × Kept a.left len n
  unfolding around_of
  around_kept {len} y =
      subst (λ (b : Around). Kept b.above len n × Kept b.left len n) (sym ea) (
        record { side = y.few.side; few = y.few.above_few; inside = y.above_in },
        record
            { side = y.few.side; few = y.few.left_few; inside = y.left_in },
      )

  pub around_rows : (neutral : ℕ) → any_by r.corner r.above r.left ≡ true → rows_of plane n a ≡ plane_rows plane s r n neutral
  unfolding around_of from_reach
  around_rows neutral any =
      if_yes (any_by r.corner r.above r.left) (reached r (corner_on plane s) (above_on_plane plane s) (left_on plane s) n)
      (level_rows neutral) (rows_of plane n a) any
      (ap (rows_of plane n) ea)

  -- from both edges as they are read into rows of zeros
  pub around_read : (neutral : ℕ) → any_by r.corner r.above r.left ≡ true → Reads r s (length plane) n → {x y : List ℕ} {v : Rows}
      → x ≡ read_edge plane a.above n (replicate 65 0) → y ≡ read_edge plane a.left n (replicate 65 0) → v
      ≡ record { corner = a.corner; above = x; left = y }
      → v ≡ plane_rows plane s r n neutral
  around_read neutral any reads ex ey ev =
      let k = around_kept reads in
      ev ∙ ap₂ (λ (u w : List ℕ). record { corner = a.corner; above = u; left = w }) (ex ∙ read-edge a.above k.0.few)
      (ey ∙ read-edge a.left k.1.few)
      ∙ around_rows neutral any
    where
      read-edge : (e : Border) → e.have ≤ 2 * n + 1 → read_edge plane e n (replicate 65 0) ≡ edge_in plane e n
      read-edge e few = pad_edge e.have (on_edge plane e.at e.step) e.rest (2 * n + 1) few
