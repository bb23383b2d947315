-- What a prediction on bytes has that is not refused. Rests on the numbers.
use Rattle.std.specs.Prelude.{◌≡◌, Bool, true, ◌&&◌, ℕ, ◌*◌, ◌≤◌, leb}
use Rattle.std.proofs.Common.{arith, leb-true}
use Rattle.laws.specs.Choose.{passed, both_true}
use Rattle.domain.specs.Domain.{depth_ok, size_ok, mode_ok, predictor_row}
use Rattle.domain.specs.Facts.{Size, size_of}
use Rattle.predict.specs.by_mode.Door.{Predictable}
use Rattle.camera.specs.prediction.Entries.{has_block_room, flat_entry_no, mode_entry_no}

-- rows and a buffer that are long enough, in bytes
pub record HasRoom (n above left out : ℕ) : Type 0 where
  pub above_long : 4 * n ≤ above
  pub left_long : 4 * n ≤ left
  pub block_long : 2 * (n * n) ≤ out

fit : (row n above left out : ℕ) → 4 * n ≤ row → has_block_room row n above left out ≡ true → HasRoom n above left out
fit row n above left out long e =
    let a = both_true (leb row above && leb row left) (leb (2 * (n * n)) out) e in
    let b = both_true (leb row above) (leb row left) a.0 in
    let ha = leb-true row above b.0 in
    let hl = leb-true row left b.1 in
    record { above_long = omega arith; left_long = omega arith; block_long = leb-true (2 * (n * n)) out a.1 }

-- planar and DC, at any depth and mode: they take neither
pub flat_fit : (n above left out : ℕ) → flat_entry_no n above left out ≡ 0 → (bits mode : ℕ) → depth_ok bits ≡ true → mode_ok mode ≡ true
    → Predictable bits n mode × HasRoom n above left out
unfolding flat_entry_no
flat_fit n above left out e bits mode d m =
    let s = passed (size_ok n) _ 2 (omega arith) e in
    let row = 2 * predictor_row n in (
      record { depth = d; size = s.0; inside = m },
      fit row n above left out (omega arith) (passed (has_block_room row n above left out) 0 5 (omega arith) s.1).0,
    )

-- angular and the blocks of any mode, whichever modes they take, where a row is as long as the side asks
pub mode_fit : (row bits n mode above left out : ℕ) (taken : Bool) → (Size n → 4 * n ≤ row) → (taken ≡ true → mode_ok mode ≡ true)
    → mode_entry_no row bits n taken above left out ≡ 0
    → Predictable bits n mode × (HasRoom n above left out × (taken ≡ true))
unfolding mode_entry_no
mode_fit row bits n mode above left out taken long h e =
    let d = passed (depth_ok bits) _ 1 (omega arith) e in
    let s = passed (size_ok n) _ 2 (omega arith) d.1 in
    let m = passed taken _ 3 (omega arith) s.1 in
    let t = passed (has_block_room row n above left out) 0 5 (omega arith) m.1 in
    (record { depth = d.0; size = s.0; inside = h m.0 }, (fit row n above left out (long (size_of n s.0)) t.0, m.0))

-- a mode that was not refused is taken
pub mode_taken : (row bits n : ℕ) (taken : Bool) (above left out : ℕ) → mode_entry_no row bits n taken above left out ≡ 0 → taken ≡ true
unfolding mode_entry_no
mode_taken row bits n taken above left out e =
    let s = passed (size_ok n) _ 2 (omega arith) (passed (depth_ok bits) _ 1 (omega arith) e).1 in
    (passed taken _ 3 (omega arith) s.1).0
