-- A mode that is dropped once it has lost: sums of its last rows, some at a time upward. A part of a sum is never more than the whole.
-- Assumes nothing.
use Rattle.std.specs.Prelude.{◌≡◌, Bool, false, cond, ◌&&◌, List, Option, Some, IfSome, ltb, length, get_or}
use Rattle.std.specs.Bool.{then_some}
use Rattle.std.proofs.Math.Path.{refl, sym, ap}
use Rattle.std.proofs.Common.{subst, ◌∙◌, true≢false, zero-add, add_assoc, add-mul, suc-mul, mul-le-mul_right}
use Rattle.std.proofs.Math.Bool.{true}
use Rattle.std.proofs.lemmas.Bool.{false≢true}
use Prim.Native.Nat.{ℕ, zero, suc, ◌+◌, ◌-◌, ◌*◌, ◌%◌, ◌≤◌, ◌<◌}
use Rattle.std.proofs.Math.Nat.{zero-mul}
use native.Mathlib.Omega.{arith}
use borrow.Author.Tests.{le-leb, ne_eqb, lt-ltb}
use Rattle.laws.specs.Fill.{rows}
use Rattle.laws.specs.FillLaws.{rows_at, length_run}
use Rattle.laws.specs.Sum.{total, total_none, total_join, total_same}
use Rattle.domain.specs.Domain.{size_ok}
use Rattle.domain.specs.Facts.{Size, at_size, size_small}
use Rattle.h265.specs.Notation.{from_rows}
use Rattle.predict.specs.refusals.Refusals.{refs_no, rows_no}
use Rattle.predict.specs.angular.Parts.{laid_refs, laid_at, laid_angular}
use Rattle.predict.specs.modes.Modes.{predicted_by_mode}
use Rattle.choose.specs.Choose.{apart, differences, source_at}
use Rattle.choose.specs.Sums.{same_sum}

-- What is added up of a sum, where it is dropped once it is no longer below a limit, if there is one: never more than the whole, and the
-- whole unless it was dropped.
pub record UpTo (limit : Option ℕ) (whole part : ℕ) : Type 0 where
  pub within : part ≤ whole
  pub all : IfSome limit (λ most. part < most) → part ≡ whole

-- a sum that was dropped before anything was added up
pub up_to_none : (early : Bool) (limit whole : ℕ) → early ≡ true → limit ≡ 0 → UpTo (then_some early limit) whole 0
up_to_none true limit whole t e = record { within = omega arith; all = λ l. absurd (omega arith) }
up_to_none false limit whole t e = absurd (false≢true t)

-- one that may be
pub up_to_early : (early : Bool) (limit whole s : ℕ) → early ≡ true → UpTo (Some limit) whole s → UpTo (then_some early limit) whole s
up_to_early early limit whole s t u = subst (λ (b : Bool). UpTo (then_some b limit) whole s) (sym t) u

-- the same of a number that is the same
pub up_to_same : (limit : Option ℕ) {v w s : ℕ} → v ≡ w → UpTo limit v s → UpTo limit w s
up_to_same limit e u = record { within = omega (arith, u.within, e); all = λ h. u.all h ∙ e }

-- one that is below the best, where that is the limit, was not dropped
pub up_to_below : (early : Bool) (best : ℕ) {whole part : ℕ} → UpTo (then_some early best) whole part → part < best → part ≡ whole
up_to_below true best u l = u.all l
up_to_below false best u l = u.all tt

-- The same of a limit and a bool that says whether there is one: what is added up of a sum, where it may be dropped early once it is no
-- longer below the limit. It says what `UpTo (then_some early limit)` says, by the two laws after it.
pub record UpToIf (early : Bool) (limit whole part : ℕ) : Type 0 where
  pub within : part ≤ whole
  pub all : (early ≡ true → part < limit) → part ≡ whole

pub up_to_if : (early : Bool) (limit : ℕ) {whole part : ℕ} → UpTo (then_some early limit) whole part → UpToIf early limit whole part
up_to_if true limit u = record { within = u.within; all = λ h. u.all (h refl) }
up_to_if false limit u = record { within = u.within; all = λ h. u.all tt }

pub up_to_then : (early : Bool) (limit : ℕ) {whole part : ℕ} → UpToIf early limit whole part → UpTo (then_some early limit) whole part
up_to_then true limit u = record { within = u.within; all = λ l. u.all (λ t. l) }
up_to_then false limit u = record { within = u.within; all = λ l. u.all (λ t. absurd (false≢true t)) }

-- of it too: a sum that was dropped before anything was added up
pub up_to_none_if : (early : Bool) (limit whole : ℕ) → early ≡ true → limit ≡ 0 → UpToIf early limit whole 0
up_to_none_if early limit whole t e = up_to_if early limit (up_to_none early limit whole t e)

-- one that may be
pub up_to_early_if : (early : Bool) (limit whole s : ℕ) → early ≡ true → UpToIf true limit whole s → UpToIf early limit whole s
up_to_early_if early limit whole s t u = up_to_if early limit (up_to_early early limit whole s t (up_to_then true limit u))

-- the same of a number that is the same
pub up_to_same_if : (early : Bool) (limit : ℕ) {v w s : ℕ} → v ≡ w → UpToIf early limit v s → UpToIf early limit w s
up_to_same_if early limit e u = up_to_if early limit (up_to_same (then_some early limit) e (up_to_then early limit u))

module _ (f : ℕ → ℕ) (n : ℕ) where
  -- f a + .. + f (n - 1)
  unfoldable pub tail : ℕ → ℕ
  tail a = total (λ (i : ℕ). f (a + i)) (n - a)

  pub tail_none : 0 ≡ tail n
  unfolding tail
  tail_none = total_none (λ (i : ℕ). f (n + i)) ∙ ap (total (λ (i : ℕ). f (n + i))) (let q : 0 ≡ n - n = omega arith in q)

  -- g more before it
  pub tail_more : (a g : ℕ) {s v : ℕ} → a + g ≤ n → s ≡ tail (a + g) → v ≡ total (λ (i : ℕ). f (a + i)) g → s + v ≡ tail a
  unfolding tail
  tail_more a g {s} {v} h e q =
      let k = n - (a + g) in
      let same : s ≡ total (λ (i : ℕ). f (a + (g + i))) k =
      e ∙ total_same (λ (i : ℕ). f (a + g + i)) (λ (i : ℕ). f (a + (g + i))) k (λ i l. ap f (add_assoc a g i)) in
      (let w : s + v ≡ v + s = omega arith in w) ∙ total_join (λ (i : ℕ). f (a + i)) g k q same
      ∙ ap (total (λ (i : ℕ). f (a + i))) (let w : g + k ≡ n - a = omega arith in w)

  whole_tail : (a : ℕ) → a ≤ n → total f a + tail a ≡ total f n
  unfolding tail
  whole_tail a h = total_join f a (n - a) refl refl ∙ ap (total f) (let q : a + (n - a) ≡ n = omega arith in q)

  pub tail_part : (a : ℕ) → a ≤ n → tail a ≤ total f n
  tail_part a h = omega (arith, whole_tail a h)

  pub tail_whole : tail 0 ≡ total f n
  tail_whole = whole_first (whole_tail 0 (omega arith))
    where
      whole_first : total f 0 + tail 0 ≡ total f n → tail 0 ≡ total f n
      whole_first e = omega (arith, total_none f, e)

  -- the loop ends: at row 0, or once the sum is no longer below the limit
  pub tail_done : (limit a s : ℕ) → a ≤ n → s ≡ tail a → (s < limit → a ≡ 0) → UpTo (Some limit) (total f n) s
  tail_done limit a s h e z =
      record {
        within = omega (arith, e, tail_part a h);
        all = λ l. e ∙ ap tail (z l) ∙ tail_whole;
      }

  -- the same, where a bool says that there is a limit
  pub tail_done_if : (limit a s : ℕ) → a ≤ n → s ≡ tail a → (s < limit → a ≡ 0) → UpToIf true limit (total f n) s
  tail_done_if limit a s h e z = up_to_if true limit (tail_done limit a s h e z)

-- a row of a block whose sample in row y and column x is g y x: its sum of absolute differences
unfoldable pub row_apart : ℕ → List ℕ → (ℕ → ℕ → ℕ) → ℕ → ℕ
row_apart n source g y = total (λ (x : ℕ). apart (source_at n source x y) (g y x)) n

-- the sample in column x and row y of a source block, counted from row first on
abbrev pub source_from : ℕ → List ℕ → ℕ → ℕ → ℕ → ℕ
source_from n source first x y = source_at n source x (first + y)

pub from_row_0 : (n : ℕ) (source : List ℕ) (p : ℕ → ℕ → ℕ)
    → differences (source_from n source 0) p n n ≡ differences (source_at n source) p n n
from_row_0 n source p =
    same_sum n n (source_from n source 0) (source_at n source) p p (λ x y hx hy. ap (source_at n source x) (zero-add y)) (λ x y hx hy. refl)

-- rows that follow each other are one run of samples
module _ (n first : ℕ) (source pred : List ℕ) where
  abbrev far : ℕ → ℕ
  far i = apart (get_or source (first * n + i) 0) (get_or pred i 0)

  abbrev row : ℕ → ℕ
  row y = total (λ (x : ℕ). apart (source_from n source first x y) (source_at n pred x y)) n

  one_row : (y : ℕ) → row y ≡ total (λ (i : ℕ). far (y * n + i)) n
  one_row y =
      total_same _ _ n (λ x h. ap (λ (j : ℕ). apart (get_or source j 0) (get_or pred (y * n + x) 0))
      (ap (λ (m : ℕ). m + x) (add-mul first y n) ∙ add_assoc (first * n) (y * n) x))

  rows_run : (k : ℕ) → total row k ≡ total far (k * n)
  unfolding total
  rows_run zero = rw zero-mul
  rows_run (suc k) = total_join far (k * n) n (rows_run k) (one_row k) ∙ ap (total far) (sym (suc-mul k n))

  pub run_rows : (k : ℕ) {count : ℕ} → count ≡ k * n
      → total (λ (i : ℕ). apart (get_or source (first * n + i) 0) (get_or pred i 0)) count
      ≡ differences (source_from n source first) (source_at n pred) n k
  unfolding differences
  run_rows k e = ap (total far) e ∙ sym (rows_run k)

-- the rows of a source from row first on, against those that were predicted for them
pub group_sum : (n first k : ℕ) (source : List ℕ) (g : ℕ → ℕ → ℕ) (d : List ℕ) → k * n ≤ length d
    → differences (source_from n source first) (source_at n (rows (λ (y x : ℕ). g (first + y) x) n k d)) n k
    ≡ total (λ (i : ℕ). row_apart n source g (first + i)) k
unfolding differences row_apart
group_sum n first k source g d h =
    total_same _ _ k (λ y hy. total_same _ _ n (λ x hx. ap (apart (source_at n source x (first + y)))
    (rows_at (λ (y x : ℕ). g (first + y) x) n k d y x 0 hy hx h)))

of_size : {n : ℕ} → Size n → size_ok n ≡ true
of_size {n} s = at_size (λ (m : ℕ). size_ok m ≡ true) refl refl refl refl n s

-- What adding up from the last rows asks for, of any numbers: a block of more than eight rows, a vertical mode that is not 26, whose edge
-- is filtered, and enough of all that is lent: a entries above, l to the left, s of the source, p of the buffer, r of references.
pub record UpwardOf (n mode a l s p r : ℕ) : Type 0 where
  pub size : Size n
  pub wide : 8 < n
  pub low : 18 ≤ mode
  pub high : mode ≤ 34
  pub bent : mode ≡ 26 → ⊥
  pub above : 65 ≤ a
  pub left : 65 ≤ l
  pub source : n * n ≤ s
  pub room : n * n ≤ p
  pub refs : 193 ≤ r

module _ {n mode a l s p r : ℕ} (u : UpwardOf n mode a l s p r) where
  -- neither the references nor the rows are refused
  pub refs_serve_of : refs_no n mode a l r ≡ 0
  unfolding refs_no
  refs_serve_of =
      let h = size_small n u.size in
      let b = u.above in
      let c = u.left in
      rw (
        of_size u.size,
        le-leb 18 mode u.low,
        le-leb mode 34 u.high,
        le-leb (2 * n) a (omega arith),
        le-leb (2 * n) l (omega arith),
        le-leb 193 r u.refs,
      )

  pub rows_serve_of : (first end : ℕ) → first ≤ end → end ≤ n → rows_no n mode first end a r p ≡ 0
  unfolding rows_no
  rows_serve_of first end h k =
      let z = size_small n u.size in
      let b = u.above in
      rw (
        of_size u.size,
        le-leb 18 mode u.low,
        le-leb mode 34 u.high,
        le-leb (2 * n) a (omega arith),
        le-leb 193 r u.refs,
        le-leb (n * n) p u.room,
        le-leb first end h,
        le-leb end n k,
      )

  -- eight rows at a time come to row 0
  pub by_eights_of : n % 8 ≡ 0
  by_eights_of =
      at_size (λ (m : ℕ). 8 < m → m % 8 ≡ 0) (λ h. absurd (omega arith)) (λ h. refl) (λ h. refl) (λ h. refl) n u.size u.wide

  -- where others of the same lengths are lent
  pub as_lent_of : {p' r' : ℕ} → p' ≡ p → r' ≡ r → UpwardOf n mode a l s p' r'
  as_lent_of e f =
      record {
        size = u.size;
        wide = u.wide;
        low = u.low;
        high = u.high;
        bent = u.bent;
        above = u.above;
        left = u.left;
        source = u.source;
        room = omega (arith, u.room, e);
        refs = omega (arith, u.refs, f);
      }

-- no row is left where the sum is below the limit still
pub none_left : (first : ℕ) (below : Bool) → below ≡ true → (ltb 0 first && below) ≡ false → first ≡ 0
none_left zero below e f = refl
none_left (suc first) below e f = absurd (true≢false (sym e ∙ rw (lt-ltb 0 (suc first) (omega arith)) at f))

-- a turn of the loop: k rows more
pub group_step : (n first k : ℕ) (source : List ℕ) (g : ℕ → ℕ → ℕ) (d : List ℕ) {p : List ℕ} {s v : ℕ} → first + k ≤ n → n * n ≤ length d
    → p ≡ rows (λ (y x : ℕ). g (first + y) x) n k d → s ≡ tail (row_apart n source g) n (first + k)
    → v ≡ differences (source_from n source first) (source_at n p) n k → s + v ≡ tail (row_apart n source g) n first
group_step n first k source g d h l made e q =
    tail_more (row_apart n source g) n first k h e
    (q ∙ ap (λ (p : List ℕ). differences (source_from n source first) (source_at n p) n k) made
    ∙ group_sum n first k source g d (let w = mul-le-mul_right n (let z : k ≤ n = omega arith in z) in omega arith))

-- all rows are the mode's block
module _ (bits n mode corner : ℕ) (above left refs : List ℕ) (s : Size n) (lo : 18 ≤ mode) (hi : mode ≤ 34) (f : mode ≡ 26 → ⊥)
    (l : 193 ≤ length refs) where
  laid_mode : (x y : ℕ) → x < n → y < n → laid_at above (laid_refs corner above left n (mode - 18) refs) (mode - 18) y x
      ≡ predicted_by_mode bits true true n mode (from_rows corner above left) x y
  unfolding predicted_by_mode
  laid_mode x y hx hy =
      let z = size_small n s in
      rw (
        ne_eqb mode 0 (λ e. let q : mode ≡ 0 = e in omega arith),
        ne_eqb mode 1 (λ e. let q : mode ≡ 1 = e in omega arith),
      )
      (laid_angular corner above left n s refs bits mode true x y lo (omega arith) f hx hy (omega arith))

  pub upward_sum : (source : List ℕ)
      → total (row_apart n source (laid_at above (laid_refs corner above left n (mode - 18) refs) (mode - 18))) n
      ≡ differences (source_at n source) (predicted_by_mode bits true true n mode (from_rows corner above left)) n n
  unfolding differences row_apart
  upward_sum source =
      total_same _ _ n (λ y hy. total_same _ _ n (λ x hx. ap (apart (source_at n source x y)) (laid_mode x y hx hy)))

-- references are laid over a list, which stays as long
pub length_laid : (corner : ℕ) (above left : List ℕ) (n d : ℕ) (refs : List ℕ) → length (laid_refs corner above left n d refs) ≡ length refs
unfolding laid_refs
length_laid corner above left n d refs = go (ltb d 8) _ (length_run _ _ _ refs)
  where
    go : (b : Bool) (p : List ℕ) → length p ≡ length refs → length (cond b p refs) ≡ length refs
    go true p e = e
    go false p e = refl
