-- A neighbour's coordinate as the machine holds it, y, and as it is, z: below 0, or a natural number. Assumes nothing.
use Rattle.std.specs.Prelude.{◌≡◌, refl, Bool, true, false, ℕ, T, ℤ, pos, negsuc, nat_abs}
use Rattle.std.proofs.Common.{sym, ap, ap₂, ◌∙◌, subst, arith, le-ltb, Fits, SFits}
use Rattle.std.proofs.lemmas.Bool.{false≢true}
use Rattle.std.specs.Int.Signed.{lt_z, non_neg}
use Rattle.std.specs.Int.{w64}
use Rattle.order.specs.declared.Picture.{Picture}
use Rattle.fmt.specs.declared.LumaRow.{LumaRow}
use Rattle.fmt.specs.declared.LumaCol.{LumaCol}
use Rattle.order.specs.declared.LumaNeighbour.{LumaNeighbour}
use Rattle.order.specs.Answers.{Flagged}
use Rattle.order.specs.Order.{before, number_at, order_no, is_available}

pub low_row : (p : Picture) (limit : ℕ) (z y col : ℤ) → y ≡ z → lt_z y (pos 0) ≡ true → false ≡ before p limit z col
unfolding before
low_row p limit (pos k) y col e h = absurd (false≢true (sym (le-ltb k 0 (omega arith)) ∙ ap (λ (x : ℤ). lt_z x (pos 0)) (sym e) ∙ h))
low_row p limit (negsuc k) y col e h = refl

pub low_col : (p : Picture) (limit : ℕ) (row z y : ℤ) → y ≡ z → lt_z y (pos 0) ≡ true → false ≡ before p limit row z
unfolding before
low_col p limit (pos row) (pos k) y e h = absurd (false≢true (sym (le-ltb k 0 (omega arith)) ∙ ap (λ (x : ℤ). lt_z x (pos 0)) (sym e) ∙ h))
low_col p limit (negsuc row) (pos k) y e h = refl
low_col p limit (pos row) (negsuc k) y e h = refl
low_col p limit (negsuc row) (negsuc k) y e h = refl

pub natural : (z y : ℤ) → y ≡ z → lt_z y (pos 0) ≡ false → pos (nat_abs y) ≡ z
natural (pos k) y e h = ap (λ (x : ℤ). pos (nat_abs x)) e
natural (negsuc k) y e h = absurd (false≢true (sym h ∙ ap (λ (x : ℤ). lt_z x (pos 0)) e))

pub casts : (z y : ℤ) → y ≡ z → lt_z y (pos 0) ≡ false → SFits w64 z → T (non_neg y) × Fits w64 (nat_abs y)
casts (pos k) y e h f = subst (λ (x : ℤ). T (non_neg x) × Fits w64 (nat_abs x)) (sym e) (tt, record { fits = omega (arith, f.sfits) })
casts (negsuc k) y e h f = absurd (false≢true (sym h ∙ ap (λ (x : ℤ). lt_z x (pos 0)) e))

-- the availability door, from what its callees give
pub avail_is : (p : Picture) (nb : LumaNeighbour) (row : LumaRow) (col : LumaCol) (cur : ℕ) (flag : Bool) (y x : ℤ)
    → order_no p row col ≡ 0 → cur ≡ number_at p row.0 col.0 → y ≡ nb.row → x ≡ nb.col → flag ≡ before p cur y x
    → ◌≡◌ {A = Flagged} (record { no = 0; yes = flag }) (is_available p nb row col)
unfolding is_available
avail_is p nb row col cur flag y x n c ey ex e =
    let told : flag ≡ before p (number_at p row.0 col.0) nb.row nb.col = e ∙ ap (λ (k : ℕ). before p k y x) c
    ∙ ap₂ (before p (number_at p row.0 col.0)) ey ex in
    simp (n, told)
