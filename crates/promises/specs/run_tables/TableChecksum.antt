-- Document 02, Wish 7: the table of numbers at the picture checksum, on samples, on bytes and at the camera's entry. Rests on Exact and on
-- the doors' tables.  checksum::picture_checksum   picture-checksum   on_bytes::picture_checksum_bytes   picture_checksum_bytes
-- salvrunde_checksum   checksum
use Rattle.std.specs.Prelude.{◌≡◌, refl, Bool, true, ◌&&◌, List, [], ◌∷◌, ℕ, ◌-◌, ◌*◌, ◌%◌, ◌^◌, ◌≤◌, ◌<◌, leb, eqb, length}
use Rattle.std.proofs.Common.{le-leb, leb-true, eq-eqb, eqb-true}
use Rattle.laws.specs.Choose.{both_true}
use Rattle.domain.specs.Domain.{plane_side_ok}
use Rattle.domain.specs.Facts.{Depth}
use Rattle.octets.specs.Bytes.{samples_of}
use Rattle.checksum.specs.declared.RowRange.{RowRange}
use Rattle.checksum.specs.Checksum.{checksum_no_by, summed_by, checksum_of, checksum_on_bytes}
use Rattle.camera.specs.Written.{entry}
use Rattle.camera.specs.sums.Entry.{checksum_entry}
use Rattle.promises.specs.tables.Exact.{Row, ◌when◌, ◌or◌, Exact, Tells, exact_none, exact_row, all_of, at-most, same, fact}
use Rattle.promises.specs.tables.Table.{depth, held}
use Rattle.promises.specs.run_tables.TableWalk.{Some, every_one}

-- number 4: a plane's side is a multiple of 4 from 4 to 4096
pub record PlaneSide (s : ℕ) : Type 0 where
  pub low : 4 ≤ s
  pub high : s ≤ 4096
  pub whole : s % 4 ≡ 0

abbrev pub BadSides : RowRange → Type 0
BadSides r = (¬ PlaneSide r.width) or (¬ PlaneSide r.height)

-- number 11: rows that run backward or leave the plane
abbrev pub BadRows : RowRange → Type 0
BadRows r = r.end < r.first or r.height < r.end

-- Wrong says that what is lent has another length than it must
abbrev pub checksum_table : RowRange → Type 0 → List ℕ → List (Row ℕ)
checksum_table r Wrong samples =
    (1 when ¬ Depth r.bits) ∷ (4 when BadSides r) ∷ (5 when Wrong) ∷ (7 when Some 0 (λ v. 2 ^ r.bits - 1 < v) samples)
    ∷ (11 when BadRows r) ∷ []

plane_side : (s : ℕ) → Tells (plane_side_ok s) (¬ PlaneSide s)
plane_side s = fact to (λ h. simp (le-leb 4 s h.low, le-leb s 4096 h.high, eq-eqb (s % 4) 0 h.whole))
  where
    to : plane_side_ok s ≡ true → PlaneSide s
    to e =
        let p = both_true (leb 4 s && leb s 4096) (eqb (s % 4) 0) e in
        let q = both_true (leb 4 s) (leb s 4096) p.0 in
        record { low = leb-true 4 s q.0; high = leb-true s 4096 q.1; whole = eqb-true (s % 4) 0 p.1 }

number : {fit : Bool} {Wrong : Type 0} → Tells fit Wrong → (r : RowRange) (samples : List ℕ) (sum : ℕ)
    → Exact (summed_by r fit samples sum).no (checksum_table r Wrong samples)
unfolding summed_by checksum_no_by
number t r samples sum =
    exact_row (depth r.bits) refl
    (λ e. exact_row (all_of (plane_side r.width) (plane_side r.height)) refl
    (λ e. exact_row t refl
    (λ e. exact_row (every_one 0 (λ v. at-most v (2 ^ r.bits - 1)) samples) refl
    (λ e. exact_row (all_of (at-most r.first r.end) (at-most r.end r.height)) refl (λ e. exact_none)))))

pub picture-checksum : (r : RowRange) (plane : List ℕ) (sum : ℕ)
    → Exact (checksum_of r plane sum).no (checksum_table r (¬ (length plane ≡ r.height * r.width)) plane)
picture-checksum r plane sum = number (same (length plane) (r.height * r.width)) r plane sum

-- `roomy` is what the caller says of the room for the sum
pub picture_checksum_bytes : (r : RowRange) (roomy : Bool) (bytes : List ℕ) (sum : ℕ)
    → Exact (checksum_on_bytes r roomy bytes sum).no
    (checksum_table r ((¬ (roomy ≡ true)) or (¬ (length bytes ≡ 2 * (r.height * r.width)))) (samples_of bytes))
picture_checksum_bytes r roomy bytes sum =
    number (all_of (held roomy) (same (length bytes) (2 * (r.height * r.width)))) r (samples_of bytes) sum

pub checksum : (r : RowRange) (sum : ℕ) (plane out : List ℕ)
    → Exact (checksum_entry r sum plane out).number
    (checksum_table r (length out < 4 or (¬ (length plane ≡ 2 * (r.height * r.width)))) (samples_of plane))
unfolding checksum_entry entry
checksum r sum plane out =
    number (all_of (at-most 4 (length out)) (same (length plane) (2 * (r.height * r.width)))) r (samples_of plane) sum
