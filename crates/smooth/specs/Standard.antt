-- Smoothing gives the standard's pF on the corner and entries 0 to 2n - 1, and these depend on no other entry. Assumes nothing.
use Rattle.std.specs.Prelude.{◌≡◌, Bool, List, ℕ, zero, suc, ◌+◌, ◌-◌, ◌*◌, ◌≤◌, ◌<◌, length, get_or, replicate, pos, ◌-ℤ◌}
use Rattle.std.proofs.Math.Path.{refl}
use Rattle.std.proofs.Common.{sym, ◌∙◌, arith, lt-ltb, le-ltb, eqb-true}
use Rattle.std.proofs.Math.Bool.{true, false}
use Rattle.std.proofs.Math.Logic.{⊎_elim}
use Rattle.std.proofs.Math.Dec.{eqb}
use Rattle.std.proofs.lemmas.List.{length-replicate}
use Rattle.laws.specs.FillLaws.{fill_at, fill_past}
use Rattle.laws.specs.Diff.{order, sub_pos}
use Rattle.h265.specs.Mean.{Agree}
use Rattle.h265.specs.Notation.{Neighbours, from_rows}
use Rattle.h265.specs.Filtering.{bi_int_flag, strong_at, weak_at, filtered}
use Rattle.domain.specs.rows.Neighbours.{neighbours_of}
use Rattle.smooth.specs.Smoothing.{row_entry, row_of, smoothed, filter_luma_no, filter_luma_refs}
use Rattle.smooth.specs.Steps.{luma_ready}
use Rattle.smooth.specs.Forms.{line, weak_row, strong_side, strong_is, weak_is}

row_at : (n : ℕ) (pF : ℕ → ℕ) (row : List ℕ) → n ≤ 32 → (i : ℕ) → i < 2 * n → get_or (row_of n pF row) i 0 ≡ pF i
unfolding row_of
row_at n pF row h i l =
    fill_at (row_entry n pF row) (2 * n + 1) (replicate 65 0) i 0 (omega arith) (rw length-replicate (omega arith)) ∙ rw (lt-ltb i (2 * n) l)

-- entry 2n is copied, and what lies past it is 0
pub row_kept : (n : ℕ) (pF : ℕ → ℕ) (row : List ℕ) → n ≤ 32 → get_or (row_of n pF row) (2 * n) 0 ≡ get_or row (2 * n) 0
unfolding row_of
row_kept n pF row h =
    fill_at (row_entry n pF row) (2 * n + 1) (replicate 65 0) (2 * n) 0 (omega arith) (rw length-replicate (omega arith))
    ∙ rw (le-ltb (2 * n) (2 * n) (omega arith))

zeros : (k i : ℕ) → ◌≡◌ {A = ℕ} (get_or (replicate k 0) i 0) 0
zeros zero i = refl
zeros (suc k) zero = refl
zeros (suc k) (suc i) = zeros k i

pub row_past : (n : ℕ) (pF : ℕ → ℕ) (row : List ℕ) (i : ℕ) → 2 * n < i → get_or (row_of n pF row) i 0 ≡ 0
unfolding row_of
row_past n pF row i h = fill_past (row_entry n pF row) (2 * n + 1) (replicate 65 0) i 0 (omega arith) ∙ zeros 65 i

-- what smoothing gives is the standard's
pub is_standard : (allowed : Bool) (bits n corner : ℕ) (above left : List ℕ) → n ≤ 32
    → Agree n (neighbours_of (smoothed allowed bits n corner above left)) (filtered allowed bits n (from_rows corner above left))
unfolding smoothed
is_standard allowed bits n corner above left h =
    let pF = filtered allowed bits n (from_rows corner above left) in
    record { corner = refl; above = row_at n pF.above above h; left = row_at n pF.left left h }

-- at the door: a call that is served
pub door_is_standard : (allowed : Bool) (corner : ℕ) (above left : List ℕ) (n bits : ℕ) → filter_luma_no bits n (length above) (length left)
    ≡ 0
    → Agree n (neighbours_of (filter_luma_refs allowed corner above left n bits).rows) (filtered allowed bits n (from_rows corner above left))
unfolding filter_luma_refs
door_is_standard allowed corner above left n bits e =
    rw e (is_standard allowed bits n corner above left (luma_ready bits n (length above) (length left) e).1.high)

-- what an entry is made of agrees, so it does
module _ (n c d : ℕ) (row other : ℕ → ℕ) (e : c ≡ d) (same : (i : ℕ) → i < 2 * n → row i ≡ other i) where
  line_agrees : (x : ℕ) → x < 2 * n → line c row (pos x -ℤ pos 1) ≡ line d other (pos x -ℤ pos 1)
  line_agrees zero h = e
  line_agrees (suc x) h = rw (sub_pos (suc x) 1 (omega arith)) (same (suc x - 1) (omega arith))

  weak_agrees : (x : ℕ) → x < 2 * n → weak_row n c row x ≡ weak_row n d other x
  unfolding weak_at
  weak_agrees x h =
      ⊎_elim
      (λ l. rw (lt-ltb x (2 * n - 1) l, line_agrees x h, same x h, same (x + 1) (omega arith)))
      (λ l. rw (le-ltb x (2 * n - 1) l) (same x h))
      (order x (2 * n - 1))

  strong_agrees : n ≡ 32 → (x : ℕ) → strong_at c (row 63) x ≡ strong_at d (other 63) x
  strong_agrees f x = rw (e, same 63 (omega arith))

module _ (n : ℕ) (p q : Neighbours) (a : Agree n p q) where
  straight_agrees : (bits : ℕ) → n ≡ 32 → bi_int_flag true bits n p ≡ bi_int_flag true bits n q
  unfolding bi_int_flag
  straight_agrees bits f =
      rw (a.corner, a.above 31 (omega arith), a.above 63 (omega arith), a.left 31 (omega arith), a.left 63 (omega arith))

  flag_agrees : (allowed : Bool) (bits : ℕ) → bi_int_flag allowed bits n p ≡ bi_int_flag allowed bits n q
  unfolding bi_int_flag
  flag_agrees false bits = refl
  flag_agrees true bits = go (eqb n 32) refl where
    go : (b : Bool) → eqb n 32 ≡ b → bi_int_flag true bits n p ≡ bi_int_flag true bits n q
    go true f = straight_agrees bits (eqb-true n 32 f)
    go false f = rw f

  -- filtering depends on the corner and entries 0 to 2n - 1 alone
  pub filtered_agrees : (allowed : Bool) (bits : ℕ) → 0 < n → Agree n (filtered allowed bits n p) (filtered allowed bits n q)
  filtered_agrees allowed bits h = go (bi_int_flag allowed bits n p) refl where
    go : (b : Bool) → bi_int_flag allowed bits n p ≡ b → Agree n (filtered allowed bits n p) (filtered allowed bits n q)
    go true f =
        let s = strong_side allowed bits n p f in
        rw (strong_is allowed bits n p f, strong_is allowed bits n q (sym (flag_agrees allowed bits) ∙ f))
        (record {
          corner = a.corner;
          above = λ i l. strong_agrees n p.corner q.corner p.above q.above a.corner a.above s i;
          left = λ i l. strong_agrees n p.corner q.corner p.left q.left a.corner a.left s i;
        })
    go false f =
        rw (weak_is allowed bits n p f, weak_is allowed bits n q (sym (flag_agrees allowed bits) ∙ f))
        (record {
          corner = rw (a.corner, a.above 0 (omega arith), a.left 0 (omega arith));
          above = weak_agrees n p.corner q.corner p.above q.above a.corner a.above;
          left = weak_agrees n p.corner q.corner p.left q.left a.corner a.left;
        })
