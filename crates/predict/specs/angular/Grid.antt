-- Columns of a block that stands in rows: blocks written by columns, and blocks whose first row or column is written anew. Assumes nothing.
use Rattle.std.specs.Prelude.{◌≡◌, ◌⊎◌, cond, List, eqb, length, get_or, set}
use Rattle.std.proofs.Math.Path.{refl, sym, ap}
use Rattle.std.proofs.Common.{◌∙◌, subst, inl, inr, eq-or-lt_of_le, le_of_suc-le-suc, not-suc-le-zero, mod-lt, div-lt_iff_lt-mul, div-add-mod', mul-le-mul_right, zero-mul, add-one, arith, get_or-set_same, ext_get_or, eq-eqb, ne_eqb}
use Rattle.std.proofs.Math.Logic.{⊎_elim}
use Prim.Native.Nat.{ℕ, zero, suc, ◌+◌, ◌*◌, ◌/◌, ◌%◌, ◌≤◌, ◌<◌}
use Rattle.std.proofs.Math.ListN.{length-set}
use Rattle.std.proofs.Math.Seq.{get_or-set_other}
use Rattle.std.proofs.Math.Arith.{digits_lt, digits_div, digits_mod}
use Rattle.laws.specs.Fill.{fill, rows}
use Rattle.laws.specs.FillLaws.{length_fill, fill_at, fill_past, length_rows, rows_at, rows_past}
use Rattle.laws.specs.Diff.{order}

-- the first k entries of column a of rows of n
unfoldable pub column : {A : Type 0} → (ℕ → A) → ℕ → ℕ → ℕ → List A → List A
column g a n zero d = d
column g a n (suc k) d = set (column g a n k d) (k * n + a) (g k)

-- the first k columns of an n by n block; entry (row, column) is g row column
unfoldable pub columns : {A : Type 0} → (ℕ → ℕ → A) → ℕ → ℕ → List A → List A
columns g n zero d = d
columns g n (suc k) d = column (λ (r : ℕ). g r k) k n n (columns g n k d)

module _ {A : Type 0} where
  -- the loops' steps
  pub column_none : (g : ℕ → A) (a n : ℕ) (d : List A) → d ≡ column g a n 0 d
  unfolding column
  column_none g a n d = refl

  pub column_more : (g : ℕ → A) (a n : ℕ) (d : List A) {i : ℕ} {e : List A} {v : A} → e ≡ column g a n i d → v ≡ g i → set e (i * n + a) v
      ≡ column g a n (i + 1) d
  unfolding column
  column_more g a n d p q = rw (add-one, p, q)

  pub column_done : (g : ℕ → A) (a n : ℕ) (d : List A) {i k : ℕ} {e : List A} → i ≤ k → k ≤ i → e ≡ column g a n i d → e ≡ column g a n k d
  column_done g a n d {i} {k} p q r = r ∙ ap (λ (m : ℕ). column g a n m d) (omega arith)

  pub columns_none : (g : ℕ → ℕ → A) (n : ℕ) (d : List A) → d ≡ columns g n 0 d
  unfolding columns
  columns_none g n d = refl

  pub columns_more : (g : ℕ → ℕ → A) (n : ℕ) (d : List A) (k : ℕ) {e : List A} → e ≡ columns g n k d → column (λ (r : ℕ). g r k) k n n e
      ≡ columns g n (k + 1) d
  unfolding columns
  columns_more g n d k p = rw (add-one, p)

  pub columns_done : (g : ℕ → ℕ → A) (n : ℕ) (d : List A) {i k : ℕ} {e : List A} → i ≤ k → k ≤ i → e ≡ columns g n i d → e ≡ columns g n k d
  columns_done g n d {i} {k} p q r = r ∙ ap (λ (m : ℕ). columns g n m d) (omega arith)

  pub length_column : (g : ℕ → A) (a n k : ℕ) (d : List A) → length (column g a n k d) ≡ length d
  unfolding column
  length_column g a n zero d = refl
  length_column g a n (suc k) d = length-set (column g a n k d) (k * n + a) (g k) ∙ length_column g a n k d

  length_columns : (g : ℕ → ℕ → A) (n k : ℕ) (d : List A) → length (columns g n k d) ≡ length d
  unfolding columns
  length_columns g n zero d = refl
  length_columns g n (suc k) d = length_column _ k n n (columns g n k d) ∙ length_columns g n k d

  -- a column leaves every other place as it was
  column_off : (g : ℕ → A) (a n k : ℕ) (d : List A) (i : ℕ) (z : A) → ((r : ℕ) → r < k → i ≡ r * n + a → ⊥) → get_or (column g a n k d) i z
      ≡ get_or d i z
  unfolding column
  column_off g a n zero d i z h = refl
  column_off g a n (suc k) d i z h =
      get_or-set_other (column g a n k d) (k * n + a) i (g k) z (h k (omega arith)) ∙ column_off g a n k d i z (λ r l. h r (omega arith))

  column_on : (g : ℕ → A) (a n k : ℕ) (d : List A) (r : ℕ) (z : A) → a < n → r < k → r * n + a < length d
      → get_or (column g a n k d) (r * n + a) z ≡ g r
  unfolding column
  column_on g a n zero d r z l h m = absurd (not-suc-le-zero h)
  column_on g a n (suc k) d r z l h m =
      ⊎_elim (λ e. rw e (get_or-set_same (column g a n k d) (k * n + a) (g k) z (rw length_column (rw e at m))))
      (λ lt. get_or-set_other (column g a n k d) (k * n + a) (r * n + a) (g k) z
      (λ e. let q : r ≡ k = sym (digits_div r l) ∙ ap (λ (i : ℕ). i / n) e ∙ digits_div k l in omega arith)
      ∙ column_on g a n k d r z l lt m)
      (eq-or-lt_of_le (le_of_suc-le-suc h))

  -- a list with a block's entries is that block
  block_ext : (g : ℕ → ℕ → A) (n : ℕ) (d e : List A) (z : A) → zero < n → n * n ≤ length d → length e ≡ length d
      → ((r c : ℕ) → r < n → c < n → get_or e (r * n + c) z ≡ g r c) → ((i : ℕ) → n * n ≤ i → get_or e i z ≡ get_or d i z) → e ≡ rows g n n d
  block_ext g n d e z p l s h k =
      ext_get_or z e (rows g n n d) (s ∙ sym (length_rows g n n d))
      (λ i b.
      ⊎_elim
      (λ lt.
      let r = (div-lt_iff_lt-mul p).1 lt in
      let c = mod-lt i p in
      let q : i / n * n + i % n ≡ i = div-add-mod' i n in
      subst (λ (m : ℕ). get_or e m z ≡ get_or (rows g n n d) m z) q (h (i / n) (i % n) r c ∙ sym (rows_at g n n d (i / n) (i % n) z r c l)))
      (λ ge. k i ge ∙ sym (rows_past g n n d i z ge))
      (order i (n * n)))

  column_past : (g : ℕ → A) (a n : ℕ) (d : List A) (i : ℕ) (z : A) → a < n → n * n ≤ i → get_or (column g a n n d) i z ≡ get_or d i z
  column_past g a n d i z l h = column_off g a n n d i z (λ r b e. let q = digits_lt {q = r} {m = n} {r = a} {c = n} b l in omega arith)

  column_beside : (g : ℕ → A) (a n : ℕ) (d : List A) (r c : ℕ) (z : A) → a < n → c < n → (c ≡ a → ⊥)
      → get_or (column g a n n d) (r * n + c) z ≡ get_or d (r * n + c) z
  column_beside g a n d r c z l m f = column_off g a n n d (r * n + c) z
      (λ k b e. f (sym (digits_mod r m) ∙ ap (λ (i : ℕ). i % n) e ∙ digits_mod k l))

  -- a block whose column a is written anew
  pub column_block : (f : ℕ → A) (g : ℕ → ℕ → A) (a n : ℕ) (d : List A) (z : A) → a < n → n * n ≤ length d → column f a n n (rows g n n d)
      ≡ rows (λ (r c : ℕ). cond (eqb c a) (f r) (g r c)) n n d
  column_block f g a n d z l m =
      block_ext _ n d (column f a n n (rows g n n d)) z (omega arith) m (length_column f a n n (rows g n n d) ∙ length_rows g n n d)
      (λ r c hr hc.
      ⊎_elim
      (λ ne. column_beside f a n (rows g n n d) r c z l hc ne ∙ rows_at g n n d r c z hr hc m ∙ rw (ne_eqb c a ne))
      (λ e.
      let q = digits_lt {q = r} {m = n} {r = a} {c = n} hr l in
      rw (eq-eqb c a e, e) (column_on f a n n (rows g n n d) r z l hr (rw length_rows (omega arith))))
      (apart c a))
      (λ i h. column_past f a n (rows g n n d) i z l h ∙ rows_past g n n d i z h)
    where
      apart : (c a : ℕ) → (c ≡ a → ⊥) ⊎ (c ≡ a)
      apart c a = ⊎_elim (λ h. inl (λ e. let q : c ≡ a = e in omega arith))
          (λ h. ⊎_elim (λ k. inl (λ e. let q : c ≡ a = e in omega arith)) (λ k. inr (omega arith)) (order a c)) (order c a)

  -- columns in turn make the block
  columns_past : (g : ℕ → ℕ → A) (n k : ℕ) (d : List A) (i : ℕ) (z : A) → k ≤ n → n * n ≤ i → get_or (columns g n k d) i z ≡ get_or d i z
  unfolding columns
  columns_past g n zero d i z h l = refl
  columns_past g n (suc k) d i z h l = column_past (λ (r : ℕ). g r k) k n (columns g n k d) i z h l
      ∙ columns_past g n k d i z (omega arith) l

  columns_at : (g : ℕ → ℕ → A) (n k : ℕ) (d : List A) (r c : ℕ) (z : A) → k ≤ n → r < n → c < k → n * n ≤ length d
      → get_or (columns g n k d) (r * n + c) z ≡ g r c
  unfolding columns
  columns_at g n zero d r c z h hr hc l = absurd (not-suc-le-zero hc)
  columns_at g n (suc k) d r c z h hr hc l =
      ⊎_elim
      (λ e.
      let q = digits_lt {q = r} {m = n} {r = k} {c = n} hr h in
      rw e (column_on (λ (r : ℕ). g r k) k n n (columns g n k d) r z h hr (rw length_columns (omega arith))))
      (λ lt.
      column_beside (λ (r : ℕ). g r k) k n (columns g n k d) r c z h (omega arith) (λ e. let q : c ≡ k = e in omega arith)
      ∙ columns_at g n k d r c z (omega arith) hr lt l)
      (eq-or-lt_of_le (le_of_suc-le-suc hc))

  pub columns_rows : (g : ℕ → ℕ → A) (n : ℕ) (d : List A) (z : A) → zero < n → n * n ≤ length d → columns g n n d ≡ rows g n n d
  columns_rows g n d z p l =
      block_ext g n d (columns g n n d) z p l (length_columns g n n d) (λ r c hr hc. columns_at g n n d r c z (omega arith) hr hc l)
      (λ i h. columns_past g n n d i z (omega arith) h)

  -- a block whose first row is written anew
  pub row_block : (f : ℕ → A) (g : ℕ → ℕ → A) (n : ℕ) (d : List A) (z : A) → zero < n → n * n ≤ length d → fill f n (rows g n n d)
      ≡ rows (λ (r c : ℕ). cond (eqb r 0) (f c) (g r c)) n n d
  row_block f g n d z p l =
      block_ext _ n d (fill f n (rows g n n d)) z p l (length_fill f n (rows g n n d) ∙ length_rows g n n d)
      (λ r c hr hc. first r c hr hc)
      (λ i h. let q = mul-le-mul_right n p in fill_past f n (rows g n n d) i z (omega arith) ∙ rows_past g n n d i z h)
    where
      first : (r c : ℕ) → r < n → c < n → get_or (fill f n (rows g n n d)) (r * n + c) z ≡ cond (eqb r 0) (f c) (g r c)
      first zero c hr hc = rw zero-mul (fill_at f n (rows g n n d) (0 + c) z (omega arith)
          (rw length_rows (let q = mul-le-mul_right n p in omega arith)) ∙ ap f (let q : 0 + c ≡ c = omega arith in q))
      first (suc r) c hr hc =
          let q = mul-le-mul_right n (let s : 1 ≤ suc r = omega arith in s) in
          rw (ne_eqb (suc r) 0 (λ e. let q : suc r ≡ 0 = e in omega arith))
          (fill_past f n (rows g n n d) (suc r * n + c) z (omega arith) ∙ rows_at g n n d (suc r) c z hr hc l)
