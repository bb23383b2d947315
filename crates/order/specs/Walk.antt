-- The code's walk along an edge: what a turn keeps, and that the count it ends with is the edge's own. Assumes nothing.
use Rattle.std.specs.Prelude.{◌≡◌, refl, Bool, true, false, ◌&&◌, ℕ, suc, ◌+◌, ◌*◌, ◌/◌, ◌^◌, ◌≤◌, ◌<◌, min, ltb}
use Rattle.std.proofs.Common.{sym, ap, ap₂, ◌∙◌, inl, inr, ⊎_elim, mul-le-mul_right, add-mul, zero-mul, arith, lt-ltb, le-ltb}
use Rattle.std.proofs.Math.Nat.{div-eq_of_lt-le}
use Rattle.std.proofs.Math.Decide.{dec_lt}
use Rattle.h265.specs.Order.{z_scan}
use Rattle.domain.specs.Facts.{size_small}
use Rattle.fmt.specs.Fmt.{Subsampling}
use Rattle.order.specs.declared.Shifts.{Shifts}
use Rattle.order.specs.declared.Site.{Site}
use Rattle.order.specs.Reach.{leading}
use Rattle.order.specs.Leading.{leading_is, leading_none, leading_cut}
use Rattle.order.specs.Edges.{number_by, line_there, group_of, group, same_group, Line, Edge, OnGrid, Sited, above_there, left_there}
use Rattle.order.specs.Edges.{corner_there}

-- after some groups: all samples before i hold
pub record Walked (f : ℕ → Bool) (group most i : ℕ) : Type 0 where
  pub whole : i ≡ i / group * group
  pub near : i < most + 8
  pub hold : (j : ℕ) → j < i → j < most → f j ≡ true

module _ (s : Shifts) (limit row col down across group most : ℕ) (l : Line s row col down across group most) where
  abbrev found : ℕ → Bool
  found i = ltb (number_by s (row + i * down) (col + i * across)) limit

  pub walked_none : 0 < most + 8 → Walked found group most 0
  walked_none h = record { whole = none; near = h; hold = λ j p q. absurd (omega arith) }
    where
      none : 0 ≡ 0 / group * group
      none = sym (ap (λ (q : ℕ). q * group) (div-eq_of_lt-le {k = 0} group {m = 0} (omega arith) (omega (arith, l.some))) ∙ zero-mul group)

  pub walked_more : (i : ℕ) → Walked found group most i → i < most → found i ≡ true → Walked found group most (i + group)
  walked_more i w h e =
      record {
        whole = next;
        near = omega (arith, l.few);
        hold = λ j p q. at j p q (dec_lt j i);
      }
    where
      next : i + group ≡ (i + group) / group * group
      next =
          let a = w.whole in
          sym (ap (λ (q : ℕ). q * group) (div-eq_of_lt-le {k = i / group + 1} group {m = i + group}
          (omega (arith, add-mul (i / group) 1 group)) (omega (arith, add-mul (i / group) 1 group, l.some)))
          ∙ (let z : (i / group + 1) * group ≡ i + group = omega (arith, add-mul (i / group) 1 group) in z))

      at : (j : ℕ) → j < i + group → j < most → Dec (j < i) → found j ≡ true
      at j p q (yes k) = w.hold j k q
      at j p q (no k) =
          let a = w.whole in
          let c : j / group ≡ i / group = div-eq_of_lt-le {k = i / group} group {m = j} (omega arith)
          (omega (arith, add-mul (i / group) 1 group)) in
          let z : j / group * group ≡ i = ap (λ (x : ℕ). x * group) c ∙ sym a in
          ap (λ (v : ℕ). ltb v limit) (l.same j) ∙ ap found z ∙ e

  pub walk_stops : (i : ℕ) → Walked found group most i → i < most → found i ≡ false → i ≡ leading found most
  walk_stops i w h e = sym (leading_is found most i (omega arith) (λ j p. w.hold j p (omega arith)) (inr e))

  pub walk_ends : (i : ℕ) → Walked found group most i → most ≤ i → most ≡ leading found most
  walk_ends i w h = sym (leading_is found most most (omega arith) (λ j p. w.hold j (omega arith) p) (inl refl))

-- a place in luma samples, some steps on
pub span : (x i room step : ℕ) → i < room → x + room * step ≤ 4096 → Subsampling step → (i * step ≤ 4096) × (x + i * step < 4096)
span x i room step h b t =
    let pos : 0 < step = ⊎_elim (λ e. omega arith) (λ e. omega arith) t in
    let m : suc i * step ≤ room * step = mul-le-mul_right step h in
    let a : suc i * step ≡ i * step + step = ap (λ (k : ℕ). k * step) (let e : suc i ≡ i + 1 = omega arith in e) ∙ add-mul i 1 step
    ∙ (let e : i * step + 1 * step ≡ i * step + step = omega arith in e) in
    (omega arith, omega arith)

-- entries of a line that stays at one coordinate, and those along the other
still : (r i g : ℕ) → r + i * 0 ≡ r + i / g * g * 0
still r i g = omega arith

-- where the samples past the room are not there, the count of the room is the count of the whole edge
edge_count : (f g : ℕ → Bool) (most room : ℕ) → ((i : ℕ) → i < room → f i ≡ g i) → f room ≡ false → leading g (min most room)
    ≡ leading f most
edge_count f g most room same end =
    sym (leading_cut f g most (min most room) (omega arith) (λ i q. same i (omega arith))
    (λ q. ap f (let e : min most room ≡ room = omega arith in e) ∙ end))

module _ (s : Shifts) (e : Site) (unit n : ℕ) (p : Sited s e unit n) where
  same_cells : (x step g i : ℕ) → Subsampling step → OnGrid n step x → g ≡ group_of unit step n → (x + i * step) / 2 ^ s.unit
      ≡ (x + i / g * g * step) / 2 ^ s.unit
  same_cells x step g i t l eg =
      ap₂ (λ (v u : ℕ). (v + i * step) / u) l.on p.shift
      ∙ same_group unit step n l.sample i p.units t p.size l.whole
      ∙ ap₂ (λ (h u : ℕ). (l.sample * step + i / h * h * step) / u) (sym eg) (sym p.shift)
      ∙ ap (λ (v : ℕ). (v + i / g * g * step) / 2 ^ s.unit) (sym l.on)

  -- an edge, by the step that is not 0, the places that it passes, and that those of a group share a cell
  edge : (r c down across step room : ℕ) → down + across ≡ step → Subsampling step
      → ((i : ℕ) → i < room → (i * down ≤ 4096) × (i * across ≤ 4096) × (r + i * down < 4096) × (c + i * across < 4096))
      → ((g i : ℕ) → g ≡ group_of unit step n → number_by s (r + i * down) (c + i * across)
      ≡ number_by s (r + i / g * g * down) (c + i / g * g * across))
      → Edge s r c down across unit n room
  edge r c down across step room q t inside same =
      let g = group unit (down + across) n p.units (⊎_elim (λ w. inl (q ∙ w)) (λ w. inr (q ∙ w)) t) p.size in
      record {
        size = p.size;
        step = ⊎_elim (λ w. inl (q ∙ w)) (λ w. inr (q ∙ w)) t;
        line = record {
          small = p.small;
          some = g.some;
          few = g.few;
          short = omega (arith, size_small n p.size);
          inside = λ i w. inside i (omega arith);
          same = λ i. same (group_of unit (down + across) n) i (ap (λ (x : ℕ). group_of unit x n) q);
        };
      }

  -- the row above
  pub above_edge : Edge s e.above.0 e.col.0 0 e.across unit n e.cols
  above_edge =
      edge _ _ 0 e.across e.across _ (omega arith) p.acrosses
      (λ i q.
      let a = span e.col.0 i e.cols e.across q p.wide p.acrosses in
      let b = p.above_in in
      (omega arith, a.0, omega arith, a.1))
      (λ g i eg. ap₂ (λ (y x : ℕ). z_scan s.levels s.ctus x (y / 2 ^ s.unit)) (still e.above.0 i g)
      (same_cells e.col.0 e.across g i p.acrosses p.col_at eg))

  pub above_none : (limit : ℕ) → e.row.0 ≡ 0 → 0 ≡ leading (above_there s e limit) (2 * n + 1)
  above_none limit z = sym (leading_none (above_there s e limit) (2 * n + 1)
      (ap (λ (r : ℕ). ltb 0 r && ltb 0 e.cols && ltb (number_by s e.above.0 (e.col.0 + 0 * e.across)) limit) z))

  pub above_count : (limit : ℕ) → 0 < e.row.0
      → leading (line_there s limit e.above.0 e.col.0 0 e.across) (min (2 * n + 1) e.cols)
      ≡ leading (above_there s e limit) (2 * n + 1)
  above_count limit h = edge_count (above_there s e limit) _ (2 * n + 1) e.cols there past
    where
      there : (i : ℕ) → i < e.cols → above_there s e limit i ≡ line_there s limit e.above.0 e.col.0 0 e.across i
      there i q =
          simp (lt-ltb 0 e.row.0 h, lt-ltb i e.cols q)
          (ap (λ (y : ℕ). ltb (number_by s y (e.col.0 + i * e.across)) limit)
          (let w : e.above.0 ≡ e.above.0 + i * 0 = omega arith in w))

      past : above_there s e limit e.cols ≡ false
      past = simp (lt-ltb 0 e.row.0 h, le-ltb e.cols e.cols (omega arith))

  -- the left column
  pub left_edge : Edge s e.row.0 e.left.0 e.down 0 unit n e.rows
  left_edge =
      edge _ _ e.down 0 e.down _ (omega arith) p.downs
      (λ i q.
      let a = span e.row.0 i e.rows e.down q p.tall p.downs in
      let b = p.left_in in
      (a.0, omega arith, a.1, omega arith))
      (λ g i eg. ap₂ (λ (y x : ℕ). z_scan s.levels s.ctus (x / 2 ^ s.unit) y)
      (same_cells e.row.0 e.down g i p.downs p.row_at eg) (still e.left.0 i g))

  pub left_none : (limit : ℕ) → e.col.0 ≡ 0 → 0 ≡ leading (left_there s e limit) (2 * n + 1)
  left_none limit z = sym (leading_none (left_there s e limit) (2 * n + 1)
      (ap (λ (c : ℕ). ltb 0 c && ltb 0 e.rows && ltb (number_by s (e.row.0 + 0 * e.down) e.left.0) limit) z))

  pub left_count : (limit : ℕ) → 0 < e.col.0
      → leading (line_there s limit e.row.0 e.left.0 e.down 0) (min (2 * n + 1) e.rows)
      ≡ leading (left_there s e limit) (2 * n + 1)
  left_count limit h = edge_count (left_there s e limit) _ (2 * n + 1) e.rows there past
    where
      there : (i : ℕ) → i < e.rows → left_there s e limit i ≡ line_there s limit e.row.0 e.left.0 e.down 0 i
      there i q =
          simp (lt-ltb 0 e.col.0 h, lt-ltb i e.rows q)
          (ap (λ (x : ℕ). ltb (number_by s (e.row.0 + i * e.down) x) limit) (let w : e.left.0 ≡ e.left.0 + i * 0 = omega arith in w))

      past : left_there s e limit e.rows ≡ false
      past = simp (lt-ltb 0 e.col.0 h, le-ltb e.rows e.rows (omega arith))

  -- the corner
  pub corner_side : (limit : ℕ) → 0 < e.row.0 → e.col.0 ≡ 0 → false ≡ corner_there s e limit
  corner_side limit h z = sym (simp (lt-ltb 0 e.row.0 h, le-ltb 0 e.col.0 (omega arith)))

  pub corner_is : (limit v : ℕ) → 0 < e.row.0 → 0 < e.col.0 → v ≡ number_by s e.above.0 e.left.0 → ltb v limit
      ≡ corner_there s e limit
  corner_is limit v hr hc q = ap (λ (x : ℕ). ltb x limit) q
      ∙ sym (ap₂ (λ (a b : Bool). a && b && ltb (number_by s e.above.0 e.left.0) limit) (lt-ltb 0 e.row.0 hr)
      (lt-ltb 0 e.col.0 hc))
