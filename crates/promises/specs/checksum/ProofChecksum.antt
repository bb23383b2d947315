-- The page Checksum, proved. Rests on the laws of the sum (checksum/specs/Laws) and on what a served call rests on.
use Rattle.std.specs.Prelude.{◌≡◌, Bool, ◌&&◌, List, ℕ, ◌-◌, ◌*◌, ◌≤◌, leb, eqb, length}
use Rattle.std.proofs.Math.Path.{sym}
use Rattle.std.proofs.Common.{ap, ◌∙◌, arith}
use Rattle.laws.specs.Choose.{worked}
use Rattle.h265.specs.Checksum.{sum_of_rows}
use Rattle.octets.specs.Bytes.{samples_of}
use Rattle.checksum.specs.declared.RowRange.{RowRange}
use Rattle.checksum.specs.Answers.{Summed, answered}
use Rattle.checksum.specs.Checksum.{row_range, sample_in_plane, checksum_no, summed_by}
use Rattle.checksum.specs.Served.{fine, sum_is}
use Rattle.checksum.specs.Laws.{rows_add, range_split}
use Rattle.camera.specs.Written.{Written, entry}
use Rattle.camera.specs.sums.Entry.{word_into, checksum_entry}
use Rattle.promises.specs.demand2.Demand2.{LentSlice}
use Rattle.promises.specs.checksum.Checksum.{ChecksumPromise}

-- an answer that is a sum over a plane, served
module _ (fit : Bool) (plane : List ℕ) where
  abbrev Served : RowRange → ℕ → Summed → Type 0
  Served r sum v = (v ≡ summed_by r fit plane sum) × (v.no ≡ 0)

  number_zero : (r : RowRange) (sum : ℕ) (v : Summed) → Served r sum v → checksum_no r fit plane ≡ 0
  unfolding summed_by
  number_zero r sum v s = sym (ap (λ (u : Summed). u.no) s.0) ∙ s.1

  the_sum : (r : RowRange) (sum : ℕ) (v : Summed) → Served r sum v
      → v.sum ≡ sum_of_rows r.bits (sample_in_plane plane r.width) r.width r.first (r.end - r.first) sum
  the_sum r sum v s = ap (λ (u : Summed). u.sum) s.0 ∙ sum_is r fit plane sum (number_zero r sum v s)

  forward : (r : RowRange) (sum : ℕ) (v : Summed) → Served r sum v → r.first ≤ r.end
  forward r sum v s = (fine r fit _ (number_zero r sum v s)).forward

  joined : (bits width height a b c sum : ℕ) (upper lower whole : Summed) → Served (row_range bits width height a b) sum upper
      → Served (row_range bits width height b c) upper.sum lower → Served (row_range bits width height a c) sum whole
      → whole.sum ≡ lower.sum
  joined bits width height a b c sum upper lower whole p q s =
      let samples : (ℕ → ℕ → ℕ) = sample_in_plane plane width in
      the_sum (row_range bits width height a c) sum whole s
      ∙ range_split bits samples width sum (forward (row_range bits width height a b) sum upper p)
      (forward (row_range bits width height b c) upper.sum lower q)
      ∙ ap (sum_of_rows bits samples width b (c - b)) (sym (the_sum (row_range bits width height a b) sum upper p))
      ∙ sym (the_sum (row_range bits width height b c) upper.sum lower q)

  from_row_0 : (bits width height : ℕ) (v : Summed) → Served (row_range bits width height 0 height) 0 v
      → v.sum ≡ sum_of_rows bits (sample_in_plane plane width) width 0 height 0
  from_row_0 bits width height v s =
      let e : height - 0 ≡ height = omega arith in
      the_sum (row_range bits width height 0 height) 0 v s ∙ ap (λ (k : ℕ). sum_of_rows bits (sample_in_plane plane width) width 0 k 0) e

abbrev fits : LentSlice → ℕ → ℕ → Bool
fits plane width height = eqb (length plane.now) (height * width)

abbrev fits_bytes : Bool → LentSlice → ℕ → ℕ → Bool
fits_bytes roomy plane width height = roomy && eqb (length plane.now) (2 * (height * width))

-- a served entry's number is the byte door's
entry_bytes : (r : RowRange) (sum : ℕ) (plane out after : List ℕ) (number : ℕ)
    → record { number = number; bytes = after } ≡ checksum_entry r sum plane out → number ≡ 0
    → after ≡ word_into (sum_of_rows r.bits (sample_in_plane (samples_of plane) r.width) r.width r.first (r.end - r.first) sum) out
unfolding checksum_entry entry summed_by
entry_bytes r sum plane out after number p z =
    let fit = leb 4 (length out) && eqb (length plane) (2 * (r.height * r.width)) in
    let e : checksum_no r fit (samples_of plane) ≡ 0 = sym (ap (λ (w : Written). w.number) p) ∙ z in
    ap (λ (w : Written). w.bytes) p ∙ sym (worked (checksum_no r fit (samples_of plane)) _ out e)
    ∙ ap (λ (v : ℕ). word_into v out) (sum_is r fit (samples_of plane) sum e)

pub checksum_settled : ChecksumPromise
checksum_settled = record {
  standard = λ κ plane bits width height v p. from_row_0 (fits plane width height) plane.now bits width height (answered v) p;
  modulo = λ κ plane bits width height first end sum v small p.
      the_sum (fits plane width height) plane.now (row_range bits width height first end) sum (answered v) p
      ∙ rows_add bits (sample_in_plane plane.now width) width first (end - first) sum small;
  split = λ κ λ' μ plane bits width height a b c sum upper lower whole p q s.
      joined (fits plane width height) plane.now bits width height a b c sum (answered upper) (answered lower) (answered whole) p q s;
  standard_bytes = λ κ plane bits width height roomy v p.
      from_row_0 (fits_bytes roomy plane width height) (samples_of plane.now) bits width height (answered v) p;
  split_bytes = λ κ λ' μ plane bits width height a b c sum roomy upper lower whole p q s.
      joined (fits_bytes roomy plane width height) (samples_of plane.now) bits width height a b c sum (answered upper) (answered lower)
      (answered whole) p q s;
  in_c = λ κs bits width height first end sum number plane out out' p z.
      entry_bytes (row_range bits width height first end) sum plane.now out.now out'.now number p z;
}
