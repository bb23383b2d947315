-- What a sum that is not refused rests on. Assumes nothing.
use Rattle.std.specs.Prelude.{◌≡◌, ℕ, ◌+◌, ◌-◌, ◌*◌, ◌%◌, ◌^◌, ◌<◌, ◌≤◌, Bool, true, false, ◌&&◌, leb, List, [], ◌∷◌, length, ◌==◌, nat_eq, nat_le, refl}
use Rattle.std.proofs.Common.{sym, ap, ◌∙◌, mul-le-mul_right, suc-mul, arith, leb-true, eqb-true}
use Rattle.laws.specs.Choose.{◌unless◌, first_fail, passed, both_true, worked}
use Rattle.laws.specs.Every.{every}
use Rattle.h265.specs.Checksum.{sum_of_rows}
use Rattle.domain.specs.Domain.{depth_ok, plane_side_ok}
use Rattle.domain.specs.Facts.{depth_of}
use Rattle.octets.specs.Bytes.{samples_of}
use Rattle.fmt.specs.depth.Depth.{largest_of}
use Rattle.fmt.specs.depth.Laws.{largest_of_is}
use Rattle.checksum.specs.declared.RowRange.{RowRange}
use Rattle.checksum.specs.Checksum.{sample_in_plane, checksum_no_by, checksum_no, summed_by}

pub record Summable (r : RowRange) (fit : Bool) : Type 0 where
  pub narrow : r.width ≤ 4096
  pub low : r.height ≤ 4096
  pub whole : fit ≡ true
  pub forward : r.first ≤ r.end
  pub inside : r.end ≤ r.height

side_most : (s : ℕ) → plane_side_ok s ≡ true → s ≤ 4096
side_most s e = leb-true s 4096 (both_true (nat_le 4 s) (nat_le s 4096) (both_true (nat_le 4 s && nat_le s 4096) (s % 4 == 0) e).0).1

pub fine : (r : RowRange) (fit ok : Bool) → checksum_no_by r fit ok ≡ 0 → Summable r fit
unfolding checksum_no_by
fine r fit ok e =
    let a = passed (depth_ok r.bits) _ 1 (omega arith) e in
    let b = passed (plane_side_ok r.width && plane_side_ok r.height) _ 4 (omega arith) a.1 in
    let s = both_true (plane_side_ok r.width) (plane_side_ok r.height) b.0 in
    let c = passed fit _ 5 (omega arith) b.1 in
    let d = passed ok _ 7 (omega arith) c.1 in
    let f = passed (nat_le r.first r.end && nat_le r.end r.height) 0 11 (omega arith) d.1 in
    let g = both_true (nat_le r.first r.end) (nat_le r.end r.height) f.0 in
    record {
      narrow = side_most r.width s.0;
      low = side_most r.height s.1;
      whole = c.0;
      forward = leb-true r.first r.end g.0;
      inside = leb-true r.end r.height g.1;
    }

-- a row of the range is in the plane
pub row_inside : {r : RowRange} {fit : Bool} → Summable r fit → (y : ℕ) → y < r.end → y * r.width + r.width ≤ r.height * r.width
row_inside {r} f y h = row (omega (arith, f.inside))
  where
    row : y < r.height → y * r.width + r.width ≤ r.height * r.width
    row l = rw suc-mul at (mul-le-mul_right r.width l)

-- and begins low in it
pub row_low : {r : RowRange} {fit : Bool} → Summable r fit → (y : ℕ) → y < r.end → y * r.width ≤ 4096 * 4096
row_low {r} f y h =
    let l : y ≤ 4096 = omega (arith, h, f.inside, f.low) in
    omega (arith, mul-le-mul_right r.width l, f.narrow)

-- the same of what is lent, where it is as many samples as the sides tell
pub row_in : (r : RowRange) (fit ok : Bool) (entries : ℕ) → checksum_no_by r fit ok ≡ 0 → (fit ≡ true → entries ≡ r.height * r.width)
    → (y : ℕ) → y < r.end → y * r.width + r.width ≤ entries
row_in r fit ok entries e long y h =
    let f = fine r fit ok e in
    omega (arith, long f.whole, row_inside f y h)

-- the same of bytes, two a sample
pub bytes_in : (r : RowRange) (bytes : List ℕ) (roomy : Bool)
    → checksum_no r (roomy && length bytes == 2 * (r.height * r.width)) (samples_of bytes) ≡ 0
    → (y : ℕ) → y < r.end → 2 * (y * r.width + r.width) ≤ length bytes
bytes_in r bytes roomy e y h =
    let whole = nat_eq (length bytes) (2 * (r.height * r.width)) in
    let f = fine r (roomy && whole) (every (λ v. leb v (2 ^ r.bits - 1)) (samples_of bytes)) e in
    omega (arith, eqb-true (length bytes) (2 * (r.height * r.width)) (both_true roomy whole f.whole).1, row_inside f y h)

-- the number by a test of the samples against the figure of the depth: where the depth is none, that test is not looked at
abbrev five_checks : Bool → Bool → Bool → Bool → Bool → ℕ
five_checks a b c d e = first_fail ((1 unless a) ∷ (4 unless b) ∷ (5 unless c) ∷ (7 unless d) ∷ (11 unless e) ∷ [])

not_looked : (a b c x y e : Bool) → (a ≡ true → x ≡ y) → five_checks a b c x e ≡ five_checks a b c y e
not_looked true b c x y e h = ap (λ (d : Bool). five_checks true b c d e) (h refl)
not_looked false b c x y e h = refl

pub by_largest : (r : RowRange) (fit : Bool) (plane : List ℕ) {ok : Bool} {largest : ℕ} → largest ≡ largest_of r.bits
    → ok ≡ every (λ (v : ℕ). leb v largest) plane → checksum_no_by r fit ok ≡ checksum_no r fit plane
unfolding checksum_no_by
by_largest r fit plane {ok} is e =
    not_looked (depth_ok r.bits) (plane_side_ok r.width && plane_side_ok r.height) fit ok
    (every (λ (v : ℕ). leb v (2 ^ r.bits - 1)) plane) (nat_le r.first r.end && nat_le r.end r.height)
    (λ d. e ∙ ap (λ (m : ℕ). every (λ (v : ℕ). leb v m) plane) (is ∙ largest_of_is r.bits (depth_of r.bits d)))

-- what a sum that is not refused is
pub sum_is : (r : RowRange) (fit : Bool) (plane : List ℕ) (sum : ℕ) → checksum_no r fit plane ≡ 0 → (summed_by r fit plane sum).sum
    ≡ sum_of_rows r.bits (sample_in_plane plane r.width) r.width r.first (r.end - r.first) sum
unfolding summed_by
sum_is r fit plane sum e = sym (worked (checksum_no r fit plane) _ 0 e)
