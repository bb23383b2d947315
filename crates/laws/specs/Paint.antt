-- A block stored into a flat list, row by row: the first row at base, each next one stride further on. Assumes nothing.
use Rattle.std.specs.Prelude.{◌≡◌, List, length, get_or}
use Rattle.std.proofs.Math.Path.{refl, ap}
use Rattle.std.proofs.Common.{◌∙◌, eq-or-lt_of_le, le_of_suc-le-suc, add-one, arith}
use Rattle.std.proofs.Math.Logic.{⊎_elim}
use Prim.Native.Nat.{ℕ, zero, suc, ◌+◌, ◌*◌, ◌≤◌, ◌<◌}
use Rattle.std.proofs.Math.Nat.{mul-le-mul_right}
use Rattle.std.proofs.Math.Seq.{get_or-set_other}
use Rattle.laws.specs.Fill.{run}
use Rattle.laws.specs.FillLaws.{length_run, run_at, run_same}

unfoldable pub paint : {A : Type 0} → ℕ → ℕ → ℕ → (ℕ → ℕ → A) → ℕ → List A → List A
paint base stride n g zero d = d
paint base stride n g (suc m) d = run (g m) (base + m * stride) n (paint base stride n g m d)

module _ {A : Type 0} where
  -- outside a run nothing changes
  run_out : (g : ℕ → A) (a k : ℕ) (d : List A) (i : ℕ) (z : A) → ((j : ℕ) → j < k → i ≡ a + j → ⊥) → get_or (run g a k d) i z ≡ get_or d i z
  unfolding run
  run_out g a zero d i z h = refl
  run_out g a (suc k) d i z h = get_or-set_other (run g a k d) (a + k) i (g k) z (λ e. h k (omega arith) e)
      ∙ run_out g a k d i z (λ j l. h j (omega arith))

  module _ (base stride n : ℕ) (g : ℕ → ℕ → A) where
    pub length_paint : (m : ℕ) (d : List A) → length (paint base stride n g m d) ≡ length d
    unfolding paint
    length_paint zero d = refl
    length_paint (suc m) d = length_run (g m) (base + m * stride) n (paint base stride n g m d) ∙ length_paint m d

    pub paint_out : (m : ℕ) (d : List A) (i : ℕ) (z : A) → ((r c : ℕ) → r < m → c < n → i ≡ base + r * stride + c → ⊥)
        → get_or (paint base stride n g m d) i z ≡ get_or d i z
    unfolding paint
    paint_out zero d i z h = refl
    paint_out (suc m) d i z h =
        run_out (g m) (base + m * stride) n (paint base stride n g m d) i z (λ j l e. h m j (omega arith) l e)
        ∙ paint_out m d i z (λ r c l. h r c (omega arith))

    pub paint_in : (m : ℕ) (d : List A) (r c : ℕ) (z : A) → n ≤ stride → r < m → c < n → base + r * stride + c < length d
        → get_or (paint base stride n g m d) (base + r * stride + c) z ≡ g r c
    unfolding paint
    paint_in zero d r c z s l h k = absurd (omega arith)
    paint_in (suc m) d r c z s l h k =
        ⊎_elim
        (λ e. rw e (run_at (g m) (base + m * stride) n (paint base stride n g m d) c z h (rw length_paint (rw e at k))))
        (λ q. run_out (g m) (base + m * stride) n (paint base stride n g m d) (base + r * stride + c) z
        (λ j t e. let p : (r + 1) * stride ≤ m * stride = mul-le-mul_right stride (omega arith) in omega arith)
        ∙ paint_in m d r c z s q h k)
        (eq-or-lt_of_le (le_of_suc-le-suc l))

    -- a loop over the rows: none, one more, all
    pub paint_none : (d : List A) → d ≡ paint base stride n g 0 d
    unfolding paint
    paint_none d = refl

    pub paint_more : (d : List A) (r : ℕ) {e : List A} → e ≡ paint base stride n g r d → run (g r) (base + r * stride) n e
        ≡ paint base stride n g (r + 1) d
    unfolding paint
    paint_more d r p = rw (add-one, p)

    pub paint_done : (d : List A) {r m : ℕ} {e : List A} → r ≤ m → m ≤ r → e ≡ paint base stride n g r d → e ≡ paint base stride n g m d
    paint_done d {r} {m} p q h = h ∙ ap (λ (k : ℕ). paint base stride n g k d) (omega arith)

    pub paint_same : (h : ℕ → ℕ → A) (m : ℕ) (d : List A) → ((r c : ℕ) → r < m → c < n → g r c ≡ h r c) → paint base stride n g m d
        ≡ paint base stride n h m d
    unfolding paint
    paint_same h zero d e = refl
    paint_same h (suc m) d e = ap (run (g m) (base + m * stride) n) (paint_same h m d (λ r c l. e r c (omega arith)))
        ∙ run_same (g m) (h m) (base + m * stride) n (paint base stride n h m d) (λ c l. e m c (omega arith) l)
