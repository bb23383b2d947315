-- Walk and replay of a plan over flat planes are walks and replays in Replay's sense: a block's prediction looks at earlier blocks
-- alone, and blocks and their residuals are stored apart. Rests on Bridge, on the gather's reading no missing sample, and on what a
-- good plan is.
use Rattle.std.specs.Prelude.{◌≡◌, true, ◌&&◌, List, ltb, length, ℤ, pos, ◌+ℤ◌, ◌-ℤ◌}
use Rattle.std.proofs.Math.Path.{sym, ap}
use Rattle.std.proofs.Common.{◌∙◌, ltb-true}
use Prim.Native.Nat.{ℕ, suc, ◌+◌, ◌-◌, ◌*◌, ◌/◌, ◌%◌, ◌≤◌, ◌<◌}
use Rattle.std.proofs.Math.Nat.{min-eq_left}
use native.Mathlib.Omega.{arith}
use Rattle.std.proofs.Math.Decide.{dec_lt}
use Rattle.std.proofs.Math.Arith.{digits_lt, digits_div, digits_mod}
use Rattle.std.proofs.Math.ListN.{get_or}
use Rattle.std.proofs.Math.IntN.{+ℤ_comm, -ℤ-+ℤ_cancel}
use Rattle.laws.specs.Choose.{both_true}
use Rattle.laws.specs.Paint.{paint_in, paint_out}
use Rattle.h265.specs.Notation.{clip_to}
use Rattle.h265.specs.Setting.{luma_at, first_edition_strong}
use Rattle.h265.specs.Prediction.{pred_samples}
use Rattle.domain.specs.Facts.{Depth}
use Rattle.order.specs.Order.{before}
use Rattle.order.specs.Reach.{luma_has}
use Rattle.domain.specs.declared.rows.Rows.{Rows}
use Rattle.domain.specs.rows.Neighbours.{neighbours_of}
use Rattle.refs.specs.Door.{luma_block, luma_rows}
use Rattle.refs.specs.Gather.{sample_of}
use Rattle.refs.specs.standard.Unread.{luma_unread}
use Rattle.plan.specs.declared.tiling.Block.{Block}
use Rattle.plan.specs.tiling.Tiling.{Of, cell_at, place}
use Rattle.plan.specs.tiling.Cover.{apart, earlier}
use Rattle.plan.specs.tiling.Verdict.{Accepted}
use Rattle.walk.specs.declared.checks.Still.{Still}
use Rattle.walk.specs.checks.Checks.{largest_in}
use Rattle.walk.specs.block.Predicted.{sample_at, predicted_at}
use Rattle.walk.specs.block.Rebuilt.{rebuilt, replay_unit}
use Rattle.walk.specs.block.Walked.{stored}
use Rattle.walk.specs.block.Bridge.{geometry_of, bridge}
use Rattle.walk.specs.calls.Places.{place_up}
use Rattle.walk.specs.block.RebuiltLaws.{rebuilt_length}
use Rattle.walk.specs.lossless.Replay.{Replays, Sourced}

-- a sample's place in the picture
pub record Sample (s : Still) : Type 0 where
  pub row : ℕ
  pub col : ℕ
  pub row_in : row < s.frame.height
  pub col_in : col < s.frame.width

abbrev pub look : (s : Still) → List ℕ → Sample s → ℕ
look s plane t = sample_at s plane t.row t.col

-- the prediction and the residual of block k at a sample
abbrev pub predict : (s : Still) → (ℕ → Block) → ℕ → List ℕ → Sample s → ℕ
predict s plan k plane t = predicted_at s (plan k) plane (t.row - (plan k).row) (t.col - (plan k).col)

abbrev pub residual : (s : Still) → (ℕ → Block) → List ℤ → ℕ → Sample s → ℤ
residual s plan v k t = get_or v (place plan k + (t.row - (plan k).row) * (plan k).side + (t.col - (plan k).col)) (pos 0)

-- a plane, or residuals, of the picture's length
abbrev pub Whole : {A : Type 0} → Still → List A → Type 0
Whole s l = length l ≡ s.frame.height * s.frame.width

abbrev pub OfS : (s : Still) → (ℕ → Block) → ℕ → Sample s → Type 0
OfS s plan k t = Of (plan k) t.row t.col

-- prediction plus residual, clamped, and original less prediction; the first undoes the second
abbrev pub added : Still → ℕ → ℤ → ℕ
added s p r = clip_to (largest_in s) (pos p +ℤ r)

abbrev pub less : ℕ → ℕ → ℤ
less o p = pos o -ℤ pos p

less_added : (m o p : ℕ) → o ≤ m → clip_to m (pos p +ℤ (pos o -ℤ pos p)) ≡ o
less_added m o p h = ap (clip_to m) (+ℤ_comm (pos p) (pos o -ℤ pos p) ∙ -ℤ-+ℤ_cancel (pos o) (pos p)) ∙ min-eq_left h

-- a sample's index, and what an index tells
index : (w R C row col r c : ℕ) → R ≡ row + r → C ≡ col + c → R * w + C ≡ row * w + col + r * w + c
index w R C row col r c p q = omega (arith, ap (λ (u : ℕ). u * w) p, q)

digits : (w : ℕ) {r c r' c' : ℕ} → c < w → c' < w → r * w + c ≡ r' * w + c' → (r ≡ r') × (c ≡ c')
digits w {r} {c} {r'} {c'} l l' e =
    (sym (digits_div r l) ∙ ap (λ (v : ℕ). v / w) e ∙ digits_div r' l', sym (digits_mod r l) ∙ ap (λ (v : ℕ). v % w) e ∙ digits_mod r' l')

module _ (s : Still) (plan : ℕ → Block) where
  -- a residual's place lies in its block's part
  pub within : (k : ℕ) (t : Sample s) → OfS s plan k t
      → place plan k + (t.row - (plan k).row) * (plan k).side + (t.col - (plan k).col) < place plan (suc k)
  unfolding place
  within k t o = omega (
    arith,
    digits_lt {q = t.row - (plan k).row} {m = (plan k).side} {r = t.col - (plan k).col} {c = (plan k).side}
        (omega arith) (omega arith),
  )

module _ (s : Still) (plan : ℕ → Block) (count : ℕ) (ok : Accepted s.frame plan count) (depth : Depth s.bits) where
  -- the prediction of block k looks at samples of earlier blocks alone
  pub local : (k : ℕ) (a b : List ℕ) → k < count → Whole s a → Whole s b
      → ((i : ℕ) (t : Sample s) → i < k → OfS s plan i t → look s a t ≡ look s b t) → (t : Sample s) → OfS s plan k t
      → predict s plan k a t ≡ predict s plan k b t
  unfolding before
  local k a b l oa ob same t o = at a oa ∙ ap from (luma_unread (geometry_of s (plan k)) a b (λ r c near. there r c)) ∙ sym (at b ob)
    where
      from : Rows → ℕ
      from u = pred_samples (luma_at s.bits) first_edition_strong (plan k).side (plan k).mode (neighbours_of u) (t.col - (plan k).col)
          (t.row - (plan k).row)

      at : (p : List ℕ) → Whole s p → predict s plan k p t ≡ from (luma_rows p (geometry_of s (plan k)))
      at p h = bridge s (plan k) ok.picture (ok.plan_good.placed k l) depth p h (ok.modes k l) (t.row - (plan k).row)
          (t.col - (plan k).col) (omega arith) (omega arith)

      there : (r c : ℕ) → luma_has (luma_block (geometry_of s (plan k))) (pos r) (pos c) ≡ true → sample_of a s.frame.width r c
          ≡ sample_of b s.frame.width r c
      there r c e =
          let p = both_true (ltb r s.frame.height && ltb c s.frame.width)
          (ltb (cell_at s.frame r c) (cell_at s.frame (plan k).row (plan k).col)) e in
          let q = both_true (ltb r s.frame.height) (ltb c s.frame.width) p.0 in
          let hr = ltb-true r s.frame.height q.0 in
          let hc = ltb-true c s.frame.width q.1 in
          let v = earlier ok.picture plan count k ok.plan_good l r c (hr, hc) (ltb-true _ _ p.1) in
          same v.0 (record { row = r; col = c; row_in = hr; col_in = hc }) v.1 v.2

  rebuild_in : (k : ℕ) (v : List ℤ) (w : List ℕ) → k < count → Whole s w → (t : Sample s) → OfS s plan k t
      → look s (replay_unit s plan v k w) t ≡ added s (predict s plan k w t) (residual s plan v k t)
  unfolding rebuilt
  rebuild_in k v w l h t o =
      let b = plan k in
      let i = index s.frame.width t.row t.col b.row b.col (t.row - b.row) (t.col - b.col) (omega arith) (omega arith) in
      let p = ok.plan_good.placed k l in
      ap (λ (u : ℕ). get_or (replay_unit s plan v k w) u 0) i
      ∙ paint_in (b.row * s.frame.width + b.col) s.frame.width b.side _ b.side w (t.row - b.row) (t.col - b.col) 0
      (omega arith) (omega arith) (omega arith)
      (omega (arith, i, digits_lt {q = t.row} {m = s.frame.height} {r = t.col} {c = s.frame.width} t.row_in t.col_in))

  pub rebuild_out : (k : ℕ) (v : List ℤ) (w : List ℕ) → k < count → (t : Sample s) → (OfS s plan k t → ⊥)
      → look s (replay_unit s plan v k w) t ≡ look s w t
  unfolding rebuilt
  rebuild_out k v w l t n =
      let b = plan k in
      let p = ok.plan_good.placed k l in
      paint_out (b.row * s.frame.width + b.col) s.frame.width b.side _ b.side w (t.row * s.frame.width + t.col) 0
      (λ r c hr hc e.
      let d = digits s.frame.width {r = t.row} {c = t.col} {r' = b.row + r} {c' = b.col + c} t.col_in (omega arith)
      (omega arith) in
      n (record { top = omega (arith, d.0); bottom = omega (arith, d.0); left = omega (arith, d.1); right = omega (arith, d.1) }))

  pub replays : Replays (Whole s) (look s) (residual s plan) count (OfS s plan) (predict s plan) (added s)
      (λ k v w. replay_unit s plan v k w)
  replays = record {
    apart = λ i k t l m. apart ok.picture plan count i k ok.plan_good l m t.row t.col;
    local = local;
    rebuild_ok = λ k v w h. rebuilt_length s (plan k) (place plan k) v w ∙ h;
    rebuild_in = rebuild_in;
    rebuild_out = rebuild_out;
  }

  module _ (source : List ℕ) where
    -- a source of the picture's length and of samples of the depth
    pub sourced : Whole s source → ((t : Sample s) → look s source t ≤ largest_in s) → Sourced (Whole s) (look s) (added s) less source
    sourced h r = record { source_ok = h; back = λ t p. less_added (largest_in s) (look s source t) p (r t) }

    pub store_out : (k : ℕ) (w : List ℕ) (v : List ℤ) (i : ℕ) (t : Sample s) → (i ≡ k → ⊥) → OfS s plan i t
        → residual s plan (stored s source (plan k) (place plan k) w v) i t ≡ residual s plan v i t
    unfolding stored place
    store_out k w v i t m o =
        paint_out (place plan k) (plan k).side (plan k).side _ (plan k).side v _ (pos 0) (λ r c hr hc e. go (dec_lt i k) r c hr hc e)
      where
        go : Dec (i < k) → (r c : ℕ) → r < (plan k).side → c < (plan k).side
            → place plan i + (t.row - (plan i).row) * (plan i).side + (t.col - (plan i).col) ≡ place plan k + r * (plan k).side + c → ⊥
        go (yes d) r c hr hc e = omega (arith, e, within s plan i t o, place_up plan (suc i) k d)
        go (no d) r c hr hc e =
            let after : suc k ≤ i = omega (arith, m) in
            omega (arith, e, place_up plan (suc k) i after, digits_lt {q = r} {m = (plan k).side} {r = c} {c = (plan k).side} hr hc)
