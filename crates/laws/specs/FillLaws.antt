-- The laws of `fill` and `run`, and the steps of the loops that make them. Assumes nothing.
use Rattle.std.specs.Prelude.{◌≡◌, List, length, get_or, set}
use Rattle.std.proofs.Math.Path.{refl}
use Rattle.std.proofs.Common.{ap, ◌∙◌, eq-or-lt_of_le, le_of_suc-le-suc, not-suc-le-zero, add-suc, add-mul, one-mul, div-lt_iff_lt-mul, mod-lt, add-one, arith, get_or-set_same}
use Rattle.std.proofs.Math.Logic.{⊎_elim}
use Prim.Native.Nat.{ℕ, zero, suc, ◌+◌, ◌*◌, ◌/◌, ◌%◌, ◌≤◌, ◌<◌}
use Rattle.std.proofs.Math.Nat.{add-zero, zero-mul}
use Rattle.std.proofs.Math.ListN.{length-set}
use Rattle.std.proofs.Math.Seq.{get_or-set_other}
use Rattle.std.proofs.Math.Arith.{digits_lt, digits_div, digits_mod}
use Rattle.laws.specs.Fill.{fill, run, rows}

module _ {A : Type 0} where
  pub length_fill : (f : ℕ → A) (k : ℕ) (d : List A) → length (fill f k d) ≡ length d
  unfolding fill
  length_fill f zero d = refl
  length_fill f (suc k) d = length-set (fill f k d) k (f k) ∙ length_fill f k d

  -- the loop begins
  pub fill_none : (f : ℕ → A) (d : List A) → d ≡ fill f 0 d
  unfolding fill
  fill_none f d = refl

  -- a turn: the store of v at i
  pub fill_more : (f : ℕ → A) (d : List A) {i : ℕ} {e : List A} {v : A} → e ≡ fill f i d → v ≡ f i → set e i v ≡ fill f (i + 1) d
  unfolding fill
  fill_more f d p q = rw (add-one, p, q)

  -- the loop ends
  pub fill_done : (f : ℕ → A) (d : List A) {i k : ℕ} {e : List A} → i ≤ k → k ≤ i → e ≡ fill f i d → e ≡ fill f k d
  fill_done f d {i} {k} p q r = r ∙ ap (λ (m : ℕ). fill f m d) (omega arith)

  pub fill_same : (f g : ℕ → A) (k : ℕ) (d : List A) → ((i : ℕ) → i < k → f i ≡ g i) → fill f k d ≡ fill g k d
  unfolding fill
  fill_same f g zero d h = refl
  fill_same f g (suc k) d h = rw (fill_same f g k d (λ i l. h i (omega arith)), h k (omega arith))

  -- what the entries are
  pub fill_past : (f : ℕ → A) (k : ℕ) (d : List A) (i : ℕ) (z : A) → k ≤ i → get_or (fill f k d) i z ≡ get_or d i z
  unfolding fill
  fill_past f zero d i z h = refl
  fill_past f (suc k) d i z h =
      get_or-set_other (fill f k d) k i (f k) z (λ e. let q : i ≡ k = e in omega arith) ∙ fill_past f k d i z (omega arith)

  pub fill_at : (f : ℕ → A) (k : ℕ) (d : List A) (i : ℕ) (z : A) → i < k → i < length d → get_or (fill f k d) i z ≡ f i
  unfolding fill
  fill_at f zero d i z h l = absurd (not-suc-le-zero h)
  fill_at f (suc k) d i z h l =
      ⊎_elim
      (λ e. rw e (get_or-set_same (fill f k d) k (f k) z (rw length_fill (rw e at l))))
      (λ lt. get_or-set_other (fill f k d) k i (f k) z (λ e. let q : i ≡ k = e in omega arith) ∙ fill_at f k d i z lt l)
      (eq-or-lt_of_le (le_of_suc-le-suc h))

  pub length_run : (g : ℕ → A) (a k : ℕ) (d : List A) → length (run g a k d) ≡ length d
  unfolding run
  length_run g a zero d = refl
  length_run g a (suc k) d = length-set (run g a k d) (a + k) (g k) ∙ length_run g a k d

  pub run_none : (g : ℕ → A) (a : ℕ) (d : List A) → d ≡ run g a 0 d
  unfolding run
  run_none g a d = refl

  pub run_more : (g : ℕ → A) (a : ℕ) (d : List A) {i : ℕ} {e : List A} {v : A} → e ≡ run g a i d → v ≡ g i → set e (a + i) v
      ≡ run g a (i + 1) d
  unfolding run
  run_more g a d p q = rw (add-one, p, q)

  pub run_done : (g : ℕ → A) (a : ℕ) (d : List A) {i k : ℕ} {e : List A} → i ≤ k → k ≤ i → e ≡ run g a i d → e ≡ run g a k d
  run_done g a d {i} {k} p q r = r ∙ ap (λ (m : ℕ). run g a m d) (omega arith)

  -- a run that carries on where a fill ends
  pub fill_run : (f g : ℕ → A) (a k : ℕ) (d : List A) → ((j : ℕ) → j < k → g j ≡ f (a + j)) → run g a k (fill f a d) ≡ fill f (a + k) d
  unfolding fill run
  fill_run f g a zero d h = rw add-zero
  fill_run f g a (suc k) d h = rw (add-suc, fill_run f g a k d (λ j l. h j (omega arith)), h k (omega arith))

  -- rows of n entries: none, one more, and all
  pub rows_none : (g : ℕ → ℕ → A) (n : ℕ) (d : List A) → d ≡ rows g n 0 d
  unfolding rows fill
  rows_none g n d = rw zero-mul

  pub rows_more : (g : ℕ → ℕ → A) (n : ℕ) (d : List A) (r : ℕ) {e : List A} → e ≡ rows g n r d → run (g r) (r * n) n e ≡ rows g n (r + 1) d
  unfolding rows
  rows_more g n d r p =
      rw (p, fill_run (λ (i : ℕ). g (i / n) (i % n)) (g r) (r * n) n d (λ j l. rw (digits_div r l, digits_mod r l)))
      (ap (λ (m : ℕ). fill (λ (i : ℕ). g (i / n) (i % n)) m d) (rw (add-mul, one-mul)))

  pub rows_done : (g : ℕ → ℕ → A) (n : ℕ) (d : List A) {r m : ℕ} {e : List A} → r ≤ m → m ≤ r → e ≡ rows g n r d → e ≡ rows g n m d
  rows_done g n d {r} {m} p q h = h ∙ ap (λ (k : ℕ). rows g n k d) (omega arith)

  pub length_rows : (g : ℕ → ℕ → A) (n m : ℕ) (d : List A) → length (rows g n m d) ≡ length d
  unfolding rows
  length_rows g n m d = length_fill (λ (i : ℕ). g (i / n) (i % n)) (m * n) d

  -- a flat loop makes the same
  pub rows_flat : (g : ℕ → ℕ → A) (n m : ℕ) (d : List A) → fill (λ (i : ℕ). g (i / n) (i % n)) (m * n) d ≡ rows g n m d
  unfolding rows
  rows_flat g n m d = refl

  -- what a run's entries are
  pub run_at : (g : ℕ → A) (a k : ℕ) (d : List A) (j : ℕ) (z : A) → j < k → a + j < length d → get_or (run g a k d) (a + j) z ≡ g j
  unfolding run
  run_at g a zero d j z h l = absurd (not-suc-le-zero h)
  run_at g a (suc k) d j z h l =
      ⊎_elim
      (λ e. rw e (get_or-set_same (run g a k d) (a + k) (g k) z (rw length_run (rw e at l))))
      (λ lt. get_or-set_other (run g a k d) (a + k) (a + j) (g k) z (λ e. let q : a + j ≡ a + k = e in omega arith) ∙ run_at g a k d j z lt l)
      (eq-or-lt_of_le (le_of_suc-le-suc h))

  -- blocks whose samples are the same
  pub rows_same : (g h : ℕ → ℕ → A) (n m : ℕ) (d : List A) → ((r c : ℕ) → r < m → c < n → g r c ≡ h r c) → zero < n → rows g n m d
      ≡ rows h n m d
  unfolding rows
  rows_same g h n m d same p =
      fill_same _ _ (m * n) d (λ i l. same (i / n) (i % n) ((div-lt_iff_lt-mul p).1 l) (mod-lt i p))

  pub run_same : (f g : ℕ → A) (a k : ℕ) (d : List A) → ((j : ℕ) → j < k → f j ≡ g j) → run f a k d ≡ run g a k d
  unfolding run
  run_same f g a zero d h = refl
  run_same f g a (suc k) d h = rw (run_same f g a k d (λ j l. h j (omega arith)), h k (omega arith))

  -- what a block's entries are
  pub rows_at : (g : ℕ → ℕ → A) (n m : ℕ) (d : List A) (r c : ℕ) (z : A) → r < m → c < n → m * n ≤ length d
      → get_or (rows g n m d) (r * n + c) z ≡ g r c
  unfolding rows
  rows_at g n m d r c z hr hc l =
      let h = digits_lt {q = r} {m = m} {r = c} {c = n} hr hc in
      fill_at _ (m * n) d (r * n + c) z h (omega arith) ∙ rw (digits_div r hc, digits_mod r hc)

  pub rows_past : (g : ℕ → ℕ → A) (n m : ℕ) (d : List A) (i : ℕ) (z : A) → m * n ≤ i → get_or (rows g n m d) i z ≡ get_or d i z
  unfolding rows
  rows_past g n m d i z h = fill_past _ (m * n) d i z h
