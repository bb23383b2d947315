-- The sum of a mode, from the block that is predicted for it: the same samples, the block mirrored, the rows smoothed. Rests on the modes'
-- laws and the standard's rule.
use Rattle.std.specs.Prelude.{◌≡◌, refl, Bool, false, not, ◌&&◌, ◌||◌, List, ℕ, ◌+◌, ◌*◌, ◌-◌, ◌≤◌, ◌<◌, ltb, eqb, length, get_or}
use Rattle.std.specs.Int.{abs_diff}
use Rattle.std.proofs.Math.Path.{sym}
use Rattle.std.proofs.Common.{ap₂, ◌∙◌, rules}
use Rattle.std.proofs.Math.Bool.{true}
use Rattle.std.proofs.lemmas.Bool.{false≢true}
use Rattle.laws.specs.Fill.{block}
use Rattle.laws.specs.FillLaws.{length_rows, rows_at}
use Rattle.laws.specs.Sum.{total_same, total_turned}
use Rattle.domain.specs.Facts.{Size, size_small}
use Rattle.h265.specs.Notation.{Neighbours, from_rows}
use Rattle.h265.specs.Setting.{luma_at, first_edition_strong}
use Rattle.h265.specs.Filtering.{min_dist_ver_hor, filter_flag, filtered}
use Rattle.h265.specs.Prediction.{filters, prepared}
use Rattle.h265.specs.Mean.{Agree}
use Rattle.predict.specs.angular.Unsigned.{mirror}
use Rattle.predict.specs.modes.Modes.{predicted_by_mode, is_by_mode, by_mode_alone}
use Rattle.choose.specs.Choose.{apart, differences, source_at, mode_sum}
use Rattle.choose.specs.Mirror.{mirrored}

-- how far apart the library has two numbers
pub apart_is : (a b : ℕ) → abs_diff a b ≡ apart a b
apart_is a b = search rules

-- the sum of the same samples
pub same_sum : (n k : ℕ) (s t p q : ℕ → ℕ → ℕ) → ((x y : ℕ) → x < n → y < k → s x y ≡ t x y)
    → ((x y : ℕ) → x < n → y < k → p x y ≡ q x y) → differences s p n k ≡ differences t q n k
unfolding differences
same_sum n k s t p q e f =
    total_same _ _ k (λ y hy. total_same _ _ n (λ x hx. ap₂ apart (e x y hx hy) (f x y hx hy)))

-- the sum of a mirrored block
turned_sum : (n : ℕ) (s p : ℕ → ℕ → ℕ) → differences (λ x y. s y x) (λ x y. p y x) n n ≡ differences s p n n
unfolding differences
turned_sum n s p = total_turned (λ i j. apart (s i j) (p i j)) n n

-- entry (row, column) of a source block with its rows as columns
abbrev pub turned_at : ℕ → List ℕ → ℕ → ℕ → ℕ
turned_at n source r c = get_or source (c * n + r) 0

-- such a block beside its source
pub record TurnedSource (n : ℕ) (source turned : List ℕ) : Type 0 where
  pub room : n * n ≤ length source
  pub turned_room : n * n ≤ length turned
  pub turns : (r c : ℕ) → r < n → c < n → get_or turned (r * n + c) 0 ≡ turned_at n source r c

pub is_turned : (n : ℕ) (source d : List ℕ) {turned : List ℕ} → n * n ≤ length source → n * n ≤ length d
    → turned ≡ block (turned_at n source) n d → TurnedSource n source turned
is_turned n source d h k e =
    record {
      room = h;
      turned_room = rw (e, length_rows) k;
      turns = λ r c hr hc. rw e (rows_at (turned_at n source) n n d r c 0 hr hc k);
    }

-- the block that a predictor made
pub made_sum : (n : ℕ) (s : ℕ → ℕ → ℕ) (g : ℕ → ℕ → ℕ) (d : List ℕ) → n * n ≤ length d
    → differences s (source_at n (block (λ (y x : ℕ). g x y) n d)) n n ≡ differences s g n n
made_sum n s g d h =
    same_sum n n s s (source_at n (block (λ (y x : ℕ). g x y) n d)) g (λ x y hx hy. refl)
    (λ x y hx hy. rows_at (λ (y x : ℕ). g x y) n n d y x 0 hy hx h)

-- a horizontal mode, from the mirrored block against the turned source
pub mirrored_sum : (bits n mode : ℕ) (nb : Neighbours) (source turned : List ℕ) → Size n → 2 ≤ mode → mode < 18
    → TurnedSource n source turned
    → differences (source_at n turned) (predicted_by_mode bits true true n (36 - mode) (mirror nb)) n n
    ≡ differences (source_at n source) (predicted_by_mode bits true true n mode nb) n n
mirrored_sum bits n mode nb source turned s low high t =
    same_sum n n _ (λ x y. source_at n source y x) _ (λ x y. predicted_by_mode bits true true n mode nb y x)
    (λ x y hx hy. t.turns y x hy hx)
    (λ x y hx hy. sym (mirrored mode low high bits n y x true nb (size_small n s).1 hy hx))
    ∙ turned_sum n (source_at n source) (predicted_by_mode bits true true n mode nb)

-- smoothed neighbours beside neighbours as they are: the standard's, as far as any mode asks for them
pub record Smooths (bits n : ℕ) (nb smoothed : Neighbours) : Type 0 where
  pub smooth : (mode : ℕ) → filter_flag n mode ≡ true → Agree n smoothed (filtered true bits n nb)

-- smoothed rows of 65 entries and more beside neighbours as they are: the standard's, as far as any mode asks for them
pub record SmoothRows (bits n : ℕ) (nb : Neighbours) (corner : ℕ) (above left : List ℕ) : Type 0 where
  pub above_long : 65 ≤ length above
  pub left_long : 65 ≤ length left
  pub smooth : (mode : ℕ) → filter_flag n mode ≡ true → Agree n (from_rows corner above left) (filtered true bits n nb)

-- rows that are long enough, and that such neighbours are read from
pub smooth_rows : (bits n : ℕ) (nb : Neighbours) (corner : ℕ) (above left : List ℕ) → 65 ≤ length above → 65 ≤ length left
    → Smooths bits n nb (from_rows corner above left) → SmoothRows bits n nb corner above left
smooth_rows bits n nb corner above left h k s = record { above_long = h; left_long = k; smooth = s.smooth }

-- no mode of side 4 asks for them
pub never_smoothed : (n mode : ℕ) → n ≡ 4 → filter_flag n mode ≡ true → ⊥
unfolding filter_flag
never_smoothed n mode e = rw e (never (eqb mode 1))
  where
    never : (b : Bool) → (not (b || true) && ltb 0 (min_dist_ver_hor mode)) ≡ true → ⊥
    never true q = false≢true q
    never false q = false≢true q

module _ (bits n mode : ℕ) (s : Size n) (m : mode ≤ 34) (nb : Neighbours) (source : List ℕ) where
  -- where the rule smooths, and where it does not
  pub sum_smoothed : (smoothed : Neighbours) → filter_flag n mode ≡ true → Agree n smoothed (filtered true bits n nb)
      → differences (source_at n source) (predicted_by_mode bits true true n mode smoothed) n n ≡ mode_sum bits n nb source mode
  unfolding prepared filters
  sum_smoothed smoothed e a =
      same_sum n n _ _ _ _ (λ x y hx hy. refl)
      (λ x y hx hy. by_mode_alone n mode s m x y hx hy bits true true _ _ a
      ∙ sym (is_by_mode (luma_at bits) first_edition_strong n mode nb x y ∙ rw e))

  pub sum_as_is : filter_flag n mode ≡ false → differences (source_at n source) (predicted_by_mode bits true true n mode nb) n n
      ≡ mode_sum bits n nb source mode
  unfolding prepared filters
  sum_as_is e =
      same_sum n n _ _ _ _ (λ x y hx hy. refl)
      (λ x y hx hy. sym (is_by_mode (luma_at bits) first_edition_strong n mode nb x y ∙ rw e))
