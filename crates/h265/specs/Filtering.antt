-- 8.4.4.2.3, the filtering of the neighbours. Assumes nothing.
use Rattle.std.specs.Prelude.{ℕ, ◌+◌, ◌-◌, ◌*◌, ◌^◌, min, Bool, cond, not, ◌&&◌, ◌||◌, ltb, eqb, pos, nat_abs, ◌+ℤ◌, ◌-ℤ◌}
use Rattle.h265.specs.Notation.{−1, Neighbours, near, ◌⟦◌⟧⟦◌⟧, ◌>>ℕ◌}

-- min_dist_ver_hor, and intraHorVerDistThres for nTbS = 8, 16, 32
abbrev pub min_dist_ver_hor : ℕ → ℕ
min_dist_ver_hor mode = min (nat_abs (pos mode -ℤ pos 26)) (nat_abs (pos mode -ℤ pos 10))

abbrev pub dist_threshold : ℕ → ℕ
dist_threshold n = cond (eqb n 8) 7 (cond (eqb n 16) 1 0)

-- filter_flag: never for DC (mode 1) or nTbS = 4
unfoldable pub filter_flag : ℕ → ℕ → Bool
filter_flag n mode = not (eqb mode 1 || eqb n 4) && ltb (dist_threshold n) (min_dist_ver_hor mode)

-- a row or column of neighbours that is nearly straight: corner, entry 31 and entry 63
unfoldable pub straight : ℕ → ℕ → ℕ → ℕ → Bool
straight bits corner mid end = ltb (nat_abs (pos corner +ℤ pos end -ℤ pos (2 * mid))) (2 ^ (bits - 5))

-- bi_int_flag; allowed says that strong_intra_smoothing_enabled_flag is 1 and cIdx is 0
unfoldable pub bi_int_flag : Bool → ℕ → ℕ → Neighbours → Bool
bi_int_flag allowed bits n nb =
    allowed && eqb n 32
    && straight bits nb.corner (nb.above 31) (nb.above 63)
    && straight bits nb.corner (nb.left 31) (nb.left 63)

-- the strong form of an entry, up to 62; entry 63 is kept
unfoldable pub strong_at : ℕ → ℕ → ℕ → ℕ
strong_at corner end x = cond (ltb x 63) ((63 - x) * corner + (x + 1) * end + 32 >>ℕ 6) end

-- the [1 2 1] form of an entry, up to 2n - 2; entry 2n - 1 is kept
unfoldable pub weak_at : ℕ → ℕ → ℕ → ℕ → ℕ → ℕ
weak_at n before self after x = cond (ltb x (2 * n - 1)) (after + 2 * self + before + 2 >>ℕ 2) self

-- pF from p, where filter_flag is 1
unfoldable pub filtered : Bool → ℕ → ℕ → Neighbours → Neighbours
filtered allowed bits n nb =
    let p = near nb in
    cond (bi_int_flag allowed bits n nb)
    (record {
      corner = nb.corner;
      above = λ x. strong_at nb.corner (nb.above 63) x;
      left = λ y. strong_at nb.corner (nb.left 63) y;
    })
    (record {
      corner = p ⟦ −1 ⟧⟦ pos 0 ⟧ + 2 * p ⟦ −1 ⟧⟦ −1 ⟧ + p ⟦ pos 0 ⟧⟦ −1 ⟧ + 2 >>ℕ 2;
      above = λ x. weak_at n (p ⟦ pos x -ℤ pos 1 ⟧⟦ −1 ⟧) (p ⟦ pos x ⟧⟦ −1 ⟧) (p ⟦ pos x +ℤ pos 1 ⟧⟦ −1 ⟧) x;
      left = λ y. weak_at n (p ⟦ −1 ⟧⟦ pos y -ℤ pos 1 ⟧) (p ⟦ −1 ⟧⟦ pos y ⟧) (p ⟦ −1 ⟧⟦ pos y +ℤ pos 1 ⟧) y;
    })
