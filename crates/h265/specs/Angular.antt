-- 8.4.4.2.6, prediction in the angular modes 2 to 34. Assumes nothing.
use Rattle.std.specs.Prelude.{ℕ, ◌+◌, ◌-◌, ◌*◌, Bool, cond, ◌&&◌, List, [], ◌∷◌, leb, ltb, eqb, ℤ, pos, neg_ℤ, ◌+ℤ◌, ◌-ℤ◌, ◌*ℤ◌}
use Rattle.std.specs.Int.Signed.{lt_z, le_z}
use Rattle.h265.specs.Notation.{−1, Neighbours, near, ◌⟦◌⟧⟦◌⟧, ◌>>◌, ◌>>ℕ◌, low5, clip1}

-- an entry of a table: a mode and its angle, or a mode and an angle below 0
infix 80 ◌⇒◌ ◌⇒−◌
abbrev ◌⇒◌ : ℕ → ℕ → ℕ × ℤ
mode ⇒ angle = (mode, pos angle)

abbrev ◌⇒−◌ : ℕ → ℕ → ℕ × ℤ
mode ⇒− angle = (mode, neg_ℤ (pos angle))

-- the angle that a table has for a mode; 0 where it has none
abbrev look_up : List (ℕ × ℤ) → ℕ → ℤ
look_up [] mode = pos 0
look_up (entry ∷ table) mode = cond (eqb mode entry.0) entry.1 (look_up table mode)

-- Table 8-4, intra_pred_angle by mode
unfoldable pub intra_pred_angle : ℕ → ℤ
intra_pred_angle =
    look_up
    (2 ⇒ 32 ∷ 3 ⇒ 26 ∷ 4 ⇒ 21 ∷ 5 ⇒ 17 ∷ 6 ⇒ 13 ∷ 7 ⇒ 9 ∷ 8 ⇒ 5 ∷ 9 ⇒ 2
    ∷ 10 ⇒ 0 ∷ 11 ⇒− 2 ∷ 12 ⇒− 5 ∷ 13 ⇒− 9 ∷ 14 ⇒− 13 ∷ 15 ⇒− 17 ∷ 16 ⇒− 21 ∷ 17 ⇒− 26
    ∷ 18 ⇒− 32 ∷ 19 ⇒− 26 ∷ 20 ⇒− 21 ∷ 21 ⇒− 17 ∷ 22 ⇒− 13 ∷ 23 ⇒− 9 ∷ 24 ⇒− 5 ∷ 25 ⇒− 2
    ∷ 26 ⇒ 0 ∷ 27 ⇒ 2 ∷ 28 ⇒ 5 ∷ 29 ⇒ 9 ∷ 30 ⇒ 13 ∷ 31 ⇒ 17 ∷ 32 ⇒ 21 ∷ 33 ⇒ 26 ∷ 34 ⇒ 32
    ∷ [])

-- Table 8-5, inv_angle by mode; 0 where there is none
unfoldable pub inv_angle : ℕ → ℤ
inv_angle =
    look_up
    (11 ⇒− 4096 ∷ 12 ⇒− 1638 ∷ 13 ⇒− 910 ∷ 14 ⇒− 630 ∷ 15 ⇒− 482 ∷ 16 ⇒− 390 ∷ 17 ⇒− 315 ∷ 18 ⇒− 256
    ∷ 19 ⇒− 315 ∷ 20 ⇒− 390 ∷ 21 ⇒− 482 ∷ 22 ⇒− 630 ∷ 23 ⇒− 910 ∷ 24 ⇒− 1638 ∷ 25 ⇒− 4096
    ∷ [])

-- ref[x] of a vertical mode; 0 where the text gives it no value
unfoldable pub ref : (ℤ → ℤ → ℕ) → ℕ → ℤ → ℤ → ℤ → ℕ
ref p n angle inv x =
    let last = pos n *ℤ angle >> 5 in
    cond (le_z (pos 0) x && le_z x (pos n)) (p ⟦ −1 +ℤ x ⟧⟦ −1 ⟧)
    (cond (lt_z angle (pos 0) && (lt_z last −1 && (le_z last x && lt_z x (pos 0))))
    (p ⟦ −1 ⟧⟦ −1 +ℤ (x *ℤ inv +ℤ pos 128 >> 8) ⟧)
    (cond (le_z (pos 0) angle && (lt_z (pos n) x && le_z x (pos (2 * n)))) (p ⟦ −1 +ℤ x ⟧⟦ −1 ⟧) 0))

-- the sample in column x and row y of a vertical mode, from ref
unfoldable pub project : (ℤ → ℕ) → ℤ → ℕ → ℕ → ℕ
project r angle x y =
    let iIdx = pos (y + 1) *ℤ angle >> 5 in
    let iFact = low5 (pos (y + 1) *ℤ angle) in
    cond (eqb iFact 0) (r (pos x +ℤ iIdx +ℤ pos 1))
    ((32 - iFact) * r (pos x +ℤ iIdx +ℤ pos 1) + iFact * r (pos x +ℤ iIdx +ℤ pos 2) + 16 >>ℕ 5)

-- predSamples[x][y]; edge says that cIdx is 0 and disableIntraBoundaryFilter is 0
unfoldable pub angular : ℕ → Bool → ℕ → ℕ → Neighbours → ℕ → ℕ → ℕ
angular bits edge n mode nb x y =
    let p = near nb in
    let angle = intra_pred_angle mode in
    let filter = edge && ltb n 32 in
    cond (leb 18 mode)
    (cond (eqb mode 26 && (eqb x 0 && filter))
    (clip1 bits (pos (p ⟦ pos 0 ⟧⟦ −1 ⟧) +ℤ (pos (p ⟦ −1 ⟧⟦ pos y ⟧) -ℤ pos (p ⟦ −1 ⟧⟦ −1 ⟧) >> 1)))
    (project (ref p n angle (inv_angle mode)) angle x y))
    (cond (eqb mode 10 && (eqb y 0 && filter))
    (clip1 bits (pos (p ⟦ −1 ⟧⟦ pos 0 ⟧) +ℤ (pos (p ⟦ pos x ⟧⟦ −1 ⟧) -ℤ pos (p ⟦ −1 ⟧⟦ −1 ⟧) >> 1)))
    (project (ref (λ (a b : ℤ). p b a) n angle (inv_angle mode)) angle y x))
