-- Stores into a block that is already filled: of one sample, of the first row, of the first column; and a row by way of another
-- list. Assumes nothing.
use Prim.Native.Nat.{ℕ, zero, suc, ◌+◌, ◌*◌, ◌/◌, ◌%◌, ◌≤◌, ◌<◌}
use Rattle.std.specs.Prelude.{◌≡◌, Bool, true, false, ◌&&◌, List, eqb, length, get_or, set}
use Rattle.std.proofs.Math.Path.{refl, ap}
use Rattle.std.proofs.Common.{sym, ◌∙◌, eq-or-lt_of_le, le_of_suc-le-suc, not-suc-le-zero, div-add-mod', div-lt_iff_lt-mul, mod-lt, add-one, set-set, lt-ltb, le-ltb, ne_eqb}
use Rattle.std.proofs.Math.Bool.{cond}
use Rattle.std.proofs.Math.Logic.{⊎_elim}
use native.Mathlib.Omega.{arith}
use Rattle.std.proofs.Math.Dec.{ltb}
use Rattle.std.proofs.Math.Seq.{set_comm}
use Rattle.std.proofs.Math.Arith.{digits_lt, digits_div, digits_mod}
use Rattle.laws.specs.Fill.{fill, run, rows}
use Rattle.laws.specs.FillLaws.{fill_same, fill_at, run_same, rows_same}
use Rattle.laws.specs.Diff.{order}

-- k entries that stand n apart, from the first on
unfoldable pub heads : {A : Type 0} → (ℕ → A) → ℕ → ℕ → List A → List A
heads h n zero d = d
heads h n (suc k) d = set (heads h n k d) (k * n) (h k)

-- which entries of a line the first k are: none, and one more
nowhere : {A : Type 0} (b : Bool) (i : ℕ) (x y : A) → y ≡ cond (b && ltb i 0) x y
nowhere true i x y = rw (le-ltb i 0 (omega arith))
nowhere false i x y = refl

one_more : (u i k : ℕ) → (u ≡ 0 → i ≡ k → ⊥) → eqb u 0 && ltb i k ≡ (eqb u 0 && ltb i (suc k))
one_more zero i k h =
    ⊎_elim (λ l. rw (lt-ltb i k l, lt-ltb i (suc k) (omega arith)))
    (λ l. let s : i ≡ k → ⊥ = h refl in rw (le-ltb i k l, le-ltb i (suc k) (omega arith)))
    (order i k)
one_more (suc u) i k h = rw (ne_eqb (suc u) 0 (λ q. let t : suc u ≡ 0 = q in omega arith))

module _ {A : Type 0} where
  pub heads_none : (h : ℕ → A) (n : ℕ) (d : List A) → d ≡ heads h n 0 d
  unfolding heads
  heads_none h n d = refl

  pub heads_more : (h : ℕ → A) (n : ℕ) (d : List A) {i : ℕ} {e : List A} {v : A} → e ≡ heads h n i d → v ≡ h i → set e (i * n) v
      ≡ heads h n (i + 1) d
  unfolding heads
  heads_more h n d p q = rw (add-one, p, q)

  pub heads_done : (h : ℕ → A) (n : ℕ) (d : List A) {i k : ℕ} {e : List A} → i ≤ k → k ≤ i → e ≡ heads h n i d → e ≡ heads h n k d
  heads_done h n d {i} {k} p q r = r ∙ ap (λ (m : ℕ). heads h n m d) (omega arith)

  -- one entry anew
  pub fill_put : (f g : ℕ → A) (k : ℕ) (d : List A) (i : ℕ) (v : A) → i < k → v ≡ g i → ((j : ℕ) → j < k → (j ≡ i → ⊥) → f j ≡ g j)
      → set (fill f k d) i v ≡ fill g k d
  unfolding fill
  fill_put f g zero d i v h e same = absurd (not-suc-le-zero h)
  fill_put f g (suc k) d i v h e same =
      ⊎_elim
      (λ p.
      rw p
      (set-set (fill f k d) k (f k) v
      ∙ rw (fill_same f g k d (λ j l. same j (omega arith) (λ q. let t : j ≡ i = q in omega arith)), e ∙ ap g p)))
      (λ lt.
      set_comm (fill f k d) k i (f k) v (λ q. let t : k ≡ i = q in omega arith)
      ∙ rw (fill_put f g k d i v lt e (λ j l q. same j (omega arith) q), same k (omega arith) (λ q. let t : k ≡ i = q in omega arith)))
      (eq-or-lt_of_le (le_of_suc-le-suc h))

  -- one sample anew
  pub rows_put : (g h : ℕ → ℕ → A) (n m : ℕ) (d : List A) (r c i : ℕ) (v : A) → i ≡ r * n + c → r < m → c < n → v ≡ h r c
      → ((y x : ℕ) → y < m → x < n → (y ≡ r → x ≡ c → ⊥) → g y x ≡ h y x) → set (rows g n m d) i v ≡ rows h n m d
  unfolding rows
  rows_put g h n m d r c i v at hr hc e same =
      let p : 0 < n = omega arith in
      let l : i < m * n = rw at (digits_lt {q = r} {m = m} {r = c} {c = n} hr hc) in
      fill_put (λ (j : ℕ). g (j / n) (j % n)) (λ (j : ℕ). h (j / n) (j % n)) (m * n) d i v l (rw (at, digits_div r hc, digits_mod r hc) e)
      (λ j l q. same (j / n) (j % n) ((div-lt_iff_lt-mul p).1 l) (mod-lt j p) (λ a b. q (sym (div-add-mod' j n) ∙ rw (a, b, at))))

  -- the first row, and the first column
  pub run_rows : (f : ℕ → A) (g : ℕ → ℕ → A) (n m k : ℕ) (d : List A) → 0 < m → 0 < n → k ≤ n → run f 0 k (rows g n m d)
      ≡ rows (λ (y x : ℕ). cond (eqb y 0 && ltb x k) (f x) (g y x)) n m d
  unfolding run
  run_rows f g n m zero d hm hn l = rows_same _ _ n m d (λ y x hy hx. nowhere (eqb y 0) x (f x) (g y x)) hn
  run_rows f g n m (suc k) d hm hn l =
      rw (run_rows f g n m k d hm hn (omega arith))
      (rows_put _ (λ (y x : ℕ). cond (eqb y 0 && ltb x (suc k)) (f x) (g y x)) n m d 0 k (0 + k) (f k) (omega arith) hm (omega arith)
      (rw (lt-ltb k (suc k) (omega arith)))
      (λ y x hy hx q. ap (λ (b : Bool). cond b (f x) (g y x)) (one_more y x k q)))

  pub heads_rows : (f : ℕ → A) (g : ℕ → ℕ → A) (n m k : ℕ) (d : List A) → 0 < n → k ≤ m → heads f n k (rows g n m d)
      ≡ rows (λ (y x : ℕ). cond (eqb x 0 && ltb y k) (f y) (g y x)) n m d
  unfolding heads
  heads_rows f g n m zero d hn l = rows_same _ _ n m d (λ y x hy hx. nowhere (eqb x 0) y (f y) (g y x)) hn
  heads_rows f g n m (suc k) d hn l =
      rw (heads_rows f g n m k d hn (omega arith))
      (rows_put _ (λ (y x : ℕ). cond (eqb x 0 && ltb y (suc k)) (f y) (g y x)) n m d k 0 (k * n) (f k) (omega arith) (omega arith) hn
      (rw (lt-ltb k (suc k) (omega arith)))
      (λ y x hy hx q. ap (λ (b : Bool). cond b (f y) (g y x)) (one_more x y k (λ a b. q b a))))

  -- a row by way of another list
  pub by_way : (g : ℕ → A) (t z d : List A) (w : A) (a n : ℕ) → n ≤ length z → t ≡ fill g n z → run (λ (c : ℕ). get_or t c w) a n d
      ≡ run g a n d
  by_way g t z d w a n l p = rw p (run_same _ _ a n d (λ j h. fill_at g n z j w h (omega arith)))
