-- A prediction from samples of the depth is a sample of the depth, so the residuals of such a source are in replay's range. Rests on
-- the predictors' being means.
use Rattle.std.specs.Prelude.{◌≡◌, Bool, true, false, ◌&&◌, List, leb, ltb, eqb, ℤ, negsuc, nat_abs, ◌+ℤ◌, ◌-ℤ◌, get_or}
use Rattle.std.proofs.Math.Path.{ap}
use Rattle.std.proofs.Common.{◌∙◌, lt-ltb, le-ltb}
use Rattle.std.proofs.Math.Bool.{cond}
use Prim.Native.Nat.{ℕ, zero, suc, ◌+◌, ◌-◌, ◌*◌, ◌/◌, ◌^◌, ◌≤◌, ◌<◌}
use Rattle.std.proofs.Math.Nat.{mul-le-mul_left, add-mul}
use native.Mathlib.Omega.{arith}
use Rattle.std.proofs.Math.Decide.{dec_lt}
use Rattle.std.proofs.Math.IntN.{pos}
use Rattle.h265.specs.Notation.{Neighbours, near, ◌>>◌, clip_to}
use Rattle.h265.specs.Setting.{Grid, Component, luma_at, first_edition_strong}
use Rattle.h265.specs.Substitution.{place_x, place_y, first_marked, settled, substituted_at, from_places, neighbours}
use Rattle.h265.specs.Filtering.{strong_at, weak_at, bi_int_flag, filtered}
use Rattle.h265.specs.Angular.{intra_pred_angle, inv_angle, ref, project, angular}
use Rattle.h265.specs.Prediction.{filters, prepared, pred_samples, predicted}
use Rattle.h265.specs.Mean.{Under, even, between}
use Rattle.domain.specs.Facts.{Depth, Size, at_depth}
use Rattle.predict.specs.modes.Flat.{planar_between, dc_between}
use Rattle.predict.specs.modes.Angular.{mean_angular}
use Rattle.predict.specs.modes.Modes.{predicted_by_mode, is_by_mode}
use Rattle.plan.specs.declared.tiling.Block.{Block}
use Rattle.walk.specs.declared.checks.Still.{Still}
use Rattle.walk.specs.checks.Checks.{largest_in}
use Rattle.walk.specs.block.Predicted.{sample_at, predicted_at}

-- neighbours that are all at most m
pub record Most (m : ℕ) (nb : Neighbours) : Type 0 where
  pub corner : nb.corner ≤ m
  pub above : (i : ℕ) → nb.above i ≤ m
  pub left : (i : ℕ) → nb.left i ≤ m

module _ (m : ℕ) where
  either : (b : Bool) {x y : ℕ} → x ≤ m → y ≤ m → cond b x y ≤ m
  either true p q = p
  either false p q = q

  either_of : (b : Bool) {p q : Neighbours} → Most m p → Most m q → Most m (cond b p q)
  either_of true p q = p
  either_of false p q = q

  clip_most : (z : ℤ) → clip_to m z ≤ m
  clip_most (pos k) = omega arith
  clip_most (negsuc k) = omega arith

  -- substitution
  settled_most : (marked : ℕ → Bool) (value : ℕ → ℕ) (found : ℕ) → ((k : ℕ) → value k ≤ m) → (k : ℕ) → settled marked value found k ≤ m
  unfolding settled
  settled_most marked value found h zero = h (cond (marked 0) 0 found)
  settled_most marked value found h (suc k) = either (marked (suc k)) (h (suc k)) (settled_most marked value found h k)

  places_most : (bits n : ℕ) (marked : ℕ → Bool) (value : ℕ → ℕ) → ((k : ℕ) → value k ≤ m) → 2 ^ (bits - 1) ≤ m
      → Most m (from_places n (substituted_at bits n marked value))
  unfolding substituted_at
  places_most bits n marked value h l = record { corner = at (2 * n); above = λ i. at (2 * n + 1 + i); left = λ i. at (2 * n - 1 - i) }
    where
      at : (k : ℕ) → substituted_at bits n marked value k ≤ m
      at k = let found = first_marked marked 0 (4 * n + 1) in either (ltb found (4 * n + 1)) (settled_most marked value found h k) l

  pub neighbours_most : (g : Grid) (c : Component) (n x y : ℕ) (samples : ℕ → ℕ → ℕ) → ((a b : ℕ) → samples a b ≤ m)
      → 2 ^ (c.bits - 1) ≤ m → Most m (neighbours g c n x y samples)
  unfolding neighbours
  neighbours_most g c n x y samples h l =
      places_most c.bits n _ _ (λ k. h (nat_abs (pos x +ℤ place_x n k)) (nat_abs (pos y +ℤ place_y n k))) l

  -- filtering
  module _ (nb : Neighbours) (a : Most m nb) where
    near_most : (x y : ℤ) → near nb x y ≤ m
    near_most (negsuc x) (negsuc y) = a.corner
    near_most (pos x) (negsuc y) = a.above x
    near_most (negsuc x) (pos y) = a.left y
    near_most (pos x) (pos y) = omega arith

    weak_most : (n : ℕ) (x y x' y' x'' y'' : ℤ) (i : ℕ) → weak_at n (near nb x y) (near nb x' y') (near nb x'' y'') i ≤ m
    unfolding weak_at
    weak_most n x y x' y' x'' y'' i =
        let p = near_most x y in
        let q = near_most x' y' in
        let r = near_most x'' y'' in
        either (ltb i (2 * n - 1)) (omega arith) q

    strong_most : (end x : ℕ) → end ≤ m → strong_at nb.corner end x ≤ m
    unfolding strong_at
    strong_most end x h = go (dec_lt x 63)
      where
        go : Dec (x < 63) → cond (ltb x 63) (((63 - x) * nb.corner + (x + 1) * end + 32) / 64) end ≤ m
        go (yes l) =
            let p = mul-le-mul_left (63 - x) a.corner in
            let q = mul-le-mul_left (x + 1) h in
            let e : 64 * m ≡ (63 - x) * m + (x + 1) * m = ap (λ (k : ℕ). k * m) (let f : 64 ≡ 63 - x + (x + 1) = omega arith in f)
            ∙ add-mul (63 - x) (x + 1) m in
            rw (lt-ltb x 63 l) (omega arith)
        go (no l) = rw (le-ltb x 63 (omega arith)) h

    filtered_most : (allowed : Bool) (bits n : ℕ) → Most m (filtered allowed bits n nb)
    unfolding filtered
    filtered_most allowed bits n =
        either_of (bi_int_flag allowed bits n nb)
        (record {
          corner = a.corner;
          above = λ i. strong_most (nb.above 63) i (a.above 63);
          left = λ i. strong_most (nb.left 63) i (a.left 63);
        })
        (record {
          corner = let p = a.corner in let q = a.above 0 in let r = a.left 0 in omega arith;
          above = λ i. weak_most n (pos i -ℤ pos 1) (negsuc 0) (pos i) (negsuc 0) (pos i +ℤ pos 1) (negsuc 0) i;
          left = λ i. weak_most n (negsuc 0) (pos i -ℤ pos 1) (negsuc 0) (pos i) (negsuc 0) (pos i +ℤ pos 1) i;
        })

    pub under : (n : ℕ) → Under n nb (even m)
    under n = record { corner = a.corner; above = λ i l. a.above i; left = λ i l. a.left i }

  pub over : (n : ℕ) (nb : Neighbours) → Under n (even 0) nb
  over n nb = record { corner = omega arith; above = λ i l. omega arith; left = λ i l. omega arith }

  -- an edge that is filtered is clipped
  edge_most : (b c f : Bool) (x y : ℕ) → x ≤ m → cond (b && (c && false)) x y ≤ m → cond (b && (c && f)) x y ≤ m
  edge_most false c f x y h k = k
  edge_most true false f x y h k = k
  edge_most true true true x y h k = h
  edge_most true true false x y h k = k

  edges_most : (a b c d e f : Bool) (x y z w : ℕ) → x ≤ m → z ≤ m → cond a (cond (b && (c && false)) x y) (cond (d && (e && false)) z w) ≤ m
      → cond a (cond (b && (c && f)) x y) (cond (d && (e && f)) z w) ≤ m
  edges_most true b c d e f x y z w h k l = edge_most b c f x y h l
  edges_most false b c d e f x y z w h k l = edge_most d e f z w k l

-- where the depth's largest is at most m
pub angular_most : (m bits : ℕ) (edge : Bool) (n mode x y : ℕ) (nb : Neighbours) → Size n → mode ≤ 34 → x < n → y < n
    → 2 ^ bits - 1 ≤ m → Most m nb → angular bits edge n mode nb x y ≤ m
unfolding angular
angular_most m bits edge n mode x y nb s h hx hy largest a =
    let p = near nb in
    let angle = intra_pred_angle mode in
    let up = pos (p (pos 0) (negsuc 0)) +ℤ (pos (p (negsuc 0) (pos y)) -ℤ pos (p (negsuc 0) (negsuc 0)) >> 1) in
    let across = pos (p (negsuc 0) (pos 0)) +ℤ (pos (p (pos x) (negsuc 0)) -ℤ pos (p (negsuc 0) (negsuc 0)) >> 1) in
    edges_most m (leb 18 mode) (eqb mode 26) (eqb x 0) (eqb mode 10) (eqb y 0) (edge && ltb n 32)
    (clip_to (2 ^ bits - 1) up) (project (ref p n angle (inv_angle mode)) angle x y)
    (clip_to (2 ^ bits - 1) across) (project (ref (λ (a b : ℤ). p b a) n angle (inv_angle mode)) angle y x)
    (omega (arith, clip_most (2 ^ bits - 1) up)) (omega (arith, clip_most (2 ^ bits - 1) across))
    (between n (λ (k : Neighbours). angular bits false n mode k x y) (mean_angular n mode s (omega arith) bits x y hx hy) 0 m nb
    (over m n nb) (under m nb a n)).1

-- a luma block, with what is smoothed and filtered
pub luma_most : (m bits n mode x y : ℕ) (nb : Neighbours) → Size n → mode ≤ 34 → x < n → y < n → 2 ^ bits - 1 ≤ m → Most m nb
    → pred_samples (luma_at bits) first_edition_strong n mode nb x y ≤ m
unfolding prepared predicted_by_mode
luma_most m bits n mode x y nb s h hx hy largest a =
    let p = either_of m (filters (luma_at bits) first_edition_strong n mode) (filtered_most m _ a true bits n) a in
    rw (is_by_mode (luma_at bits) first_edition_strong n mode nb x y)
    (either m (eqb mode 0) (planar_between n x y s hx hy 0 m _ (over m n _) (under m _ p n)).1
    (either m (eqb mode 1) (dc_between n x y s hx hy 0 m _ (over m n _) (under m _ p n) true).1
    (angular_most m bits true n mode x y _ s h hx hy largest p)))

pub predicted_most : (s : Still) (b : Block) (plane : List ℕ) → Depth s.bits → Size b.side → b.mode ≤ 34
    → ((i : ℕ) → get_or plane i 0 ≤ largest_in s)
    → (r c : ℕ) → r < b.side → c < b.side → predicted_at s b plane r c ≤ largest_in s
unfolding predicted_at predicted
predicted_most s b plane depth size mode most r c hr hc =
    let m = largest_in s in
    let neutral = at_depth (λ (k : ℕ). 2 ^ (k - 1) ≤ 2 ^ k - 1) (omega arith) (omega arith) (omega arith) s.bits depth in
    luma_most m s.bits b.side b.mode c r _ size mode hc hr (omega arith)
    (neighbours_most m _ (luma_at s.bits) b.side b.col b.row (λ x y. sample_at s plane y x) (λ x y. most _) neutral)
