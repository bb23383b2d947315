-- Where a sum is given there is room for it, and four stores are the sum. Assumes nothing.
use Rattle.std.specs.Prelude.{◌≡◌, refl, ℕ, ◌*◌, ◌≤◌, List, [], ◌∷◌, leb, eqb, length}
use Rattle.std.proofs.Common.{arith, leb-true}
use Rattle.laws.specs.Choose.{both_true}
use Rattle.checksum.specs.declared.RowRange.{RowRange}
use Rattle.checksum.specs.Checksum.{summed_by, checksum_on_bytes}
use Rattle.checksum.specs.Served.{fine}
use Rattle.camera.specs.replay.VerdictLaws.{put_word}
use Rattle.camera.specs.sums.Entry.{word_into}

pub has_room : (r : RowRange) (sum : ℕ) (plane d : List ℕ) → (checksum_on_bytes r (leb 4 (length d)) plane sum).no ≡ 0 → 4 ≤ length d
unfolding summed_by
has_room r sum plane d e =
    let whole = eqb (length plane) (2 * (r.height * r.width)) in
    leb-true 4 (length d) (both_true (leb 4 (length d)) whole (fine r _ _ e).whole).0

pub word_stored : (d : List ℕ) (v : ℕ) → 4 ≤ length d → put_word d 0 v ≡ word_into v d
unfolding word_into
word_stored (a ∷ b ∷ c ∷ e ∷ l) v h = refl
word_stored [] v h = absurd (omega arith)
word_stored (a ∷ []) v h = absurd (omega arith)
word_stored (a ∷ b ∷ []) v h = absurd (omega arith)
word_stored (a ∷ b ∷ c ∷ []) v h = absurd (omega arith)
