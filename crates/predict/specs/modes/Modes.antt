-- A block's prediction by its mode, 8.4.4.2.1, from neighbours as they are: which clause a mode takes, that it reads the corner and
-- entries 0 .. 2n - 1 alone, and that without smoothing and edge filter a sample lies between bounds of these. Rests on the
-- standard's clauses and the predictors' laws.
use Rattle.std.specs.Prelude.{◌≡◌, refl, Bool, true, cond, not, ◌&&◌, List, ℕ, ◌≤◌, ◌<◌, eqb}
use Rattle.std.proofs.Math.Bool.{false}
use Rattle.std.proofs.Common.{arith}
use borrow.Author.Tests.{ne_eqb}
use Rattle.laws.specs.Fill.{block}
use Rattle.domain.specs.Facts.{Size}
use Rattle.h265.specs.Notation.{Neighbours, from_rows}
use Rattle.h265.specs.Setting.{Component, CodingFlags}
use Rattle.h265.specs.Filtering.{filtered}
use Rattle.h265.specs.Planar.{planar}
use Rattle.h265.specs.Dc.{dc_val, dc}
use Rattle.h265.specs.Angular.{angular}
use Rattle.h265.specs.Prediction.{filters, prepared, pred_samples}
use Rattle.h265.specs.Mean.{Under, Agree, even, Mean, between}
use Rattle.predict.specs.modes.Flat.{mean_planar, mean_dc, planar_alone, dc_alone}
use Rattle.predict.specs.modes.Angular.{mean_angular, angular_alone}
use Rattle.smooth.specs.Standard.{filtered_agrees}

-- the clause of a mode; flat says that a DC block has its edge filtered, edge that an angular one has
unfoldable pub predicted_by_mode : ℕ → Bool → Bool → ℕ → ℕ → Neighbours → ℕ → ℕ → ℕ
predicted_by_mode bits flat edge n mode nb x y = cond (eqb mode 0) (planar n nb x y)
    (cond (eqb mode 1) (dc flat n nb x y) (angular bits edge n mode nb x y))

-- with nothing filtered
abbrev pub plain : ℕ → ℕ → ℕ → Neighbours → ℕ → ℕ → ℕ
plain bits n mode nb x y = predicted_by_mode bits false false n mode nb x y

-- the standard's process is the mode's clause on the neighbours that it prepared
pub is_by_mode : (c : Component) (f : CodingFlags) (n mode : ℕ) (nb : Neighbours) (x y : ℕ) → pred_samples c f n mode nb x y
    ≡ predicted_by_mode c.bits c.luma (c.luma && not f.edge_off) n mode (prepared c f n mode nb) x y
unfolding pred_samples predicted_by_mode
is_by_mode c f n mode nb x y = refl

-- the block of each kind of mode; planar and DC have no use for a corner
module _ (bits n mode corner : ℕ) (flat edge : Bool) (above left d : List ℕ) where
  abbrev made : List ℕ
  made = block (λ (y x : ℕ). predicted_by_mode bits flat edge n mode (from_rows corner above left) x y) n d

  pub planar_made : mode ≡ 0 → block (λ (y x : ℕ). planar n (from_rows 0 above left) x y) n d ≡ made
  unfolding predicted_by_mode planar
  planar_made e = rw e

  pub dc_made : mode ≡ 1 → block (λ (y x : ℕ). dc flat n (from_rows 0 above left) x y) n d ≡ made
  unfolding predicted_by_mode dc dc_val
  dc_made e = rw e

  pub angular_made : (mode ≡ 0 → ⊥) → (mode ≡ 1 → ⊥) → block (λ (y x : ℕ). angular bits edge n mode (from_rows corner above left) x y) n d
      ≡ made
  unfolding predicted_by_mode
  angular_made p q = rw (ne_eqb mode 0 p, ne_eqb mode 1 q)

-- of two predictors, one that a test picks
picked_alone : (b : Bool) {k l k' l' : ℕ} → k ≡ k' → l ≡ l' → cond b k l ≡ cond b k' l'
picked_alone true p q = p
picked_alone false p q = q

picked_mean : (b : Bool) (n : ℕ) (F G : Neighbours → ℕ) → Mean n F → Mean n G → Mean n (λ (nb : Neighbours). cond b (F nb) (G nb))
picked_mean true n F G p q = p
picked_mean false n F G p q = q

module _ (n mode : ℕ) (s : Size n) (h : mode ≤ 34) (x y : ℕ) (hx : x < n) (hy : y < n) where
  -- entries from 2n on reach no sample, whatever the edges
  pub by_mode_alone : (bits : ℕ) (flat edge : Bool) (a b : Neighbours) → Agree n a b → predicted_by_mode bits flat edge n mode a x y
      ≡ predicted_by_mode bits flat edge n mode b x y
  unfolding predicted_by_mode
  by_mode_alone bits flat edge a b e =
      picked_alone (eqb mode 0) (planar_alone n x y s hx hy a b e.above e.left)
      (picked_alone (eqb mode 1) (dc_alone n x y s hx hy a b e.above e.left flat)
      (angular_alone n mode s (omega arith) bits edge x y hx hy a b e))

  -- without edge filter a sample is a mean of the neighbours
  pub mean_plain : (bits : ℕ) → Mean n (λ (nb : Neighbours). plain bits n mode nb x y)
  unfolding predicted_by_mode
  mean_plain bits =
      picked_mean (eqb mode 0) n _ _ (mean_planar n x y s hx hy)
      (picked_mean (eqb mode 1) n _ _ (mean_dc false n x y s hx hy) (mean_angular n mode s (omega arith) bits x y hx hy))

prepared_agrees : (c : Component) (f : CodingFlags) (n mode : ℕ) (a b : Neighbours) → 0 < n → Agree n a b
    → Agree n (prepared c f n mode a) (prepared c f n mode b)
unfolding prepared
prepared_agrees c f n mode a b h e = go (filters c f n mode) where
  go : (t : Bool) → Agree n (cond t (filtered (f.strong && c.luma) c.bits n a) a)
      (cond t (filtered (f.strong && c.luma) c.bits n b) b)
  go true = filtered_agrees n a b e (f.strong && c.luma) c.bits h
  go false = e

-- entries from 2n on reach no predicted sample: smoothed or not, of any component, under any flags
pub pred_alone : (c : Component) (f : CodingFlags) (n mode x y : ℕ) (a b : Neighbours) → Size n → mode ≤ 34 → x < n → y < n → Agree n a b
    → pred_samples c f n mode a x y ≡ pred_samples c f n mode b x y
pred_alone c f n mode x y a b s h hx hy e =
    rw (is_by_mode c f n mode a x y, is_by_mode c f n mode b x y)
    (by_mode_alone n mode s h x y hx hy c.bits c.luma (c.luma && not f.edge_off) _ _
    (prepared_agrees c f n mode a b (omega arith) e))

-- with nothing filtered, every predicted sample lies between bounds of the corner and entries 0 .. 2n - 1
pub pred_between : (bits n mode x y lo hi : ℕ) (nb : Neighbours) → Size n → mode ≤ 34 → x < n → y < n → Under n (even lo) nb
    → Under n nb (even hi)
    → (lo ≤ plain bits n mode nb x y) × (plain bits n mode nb x y ≤ hi)
pred_between bits n mode x y lo hi nb s h hx hy low high =
    between n (λ (m : Neighbours). plain bits n mode m x y) (mean_plain n mode s h x y hx hy bits) lo hi nb low high
