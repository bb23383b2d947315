-- Document 01, 'use from C': that the table of numbers is met at the camera's entries, where number 5 counts bytes. Rests on Exact and on
-- the doors' tables.
use Rattle.std.specs.Prelude.{◌≡◌, Bool, List, [], ◌∷◌, ℕ, ◌*◌, ◌%◌, ◌<◌, length}
use Rattle.std.proofs.Math.Path.{refl}
use Rattle.std.proofs.Common.{arith}
use Rattle.domain.specs.Domain.{predictor_row}
use Rattle.domain.specs.Facts.{Depth, Size}
use Rattle.refs.specs.declared.LumaRefGeometry.{LumaRefGeometry}
use Rattle.refs.specs.declared.ChromaRefGeometry.{ChromaRefGeometry}
use Rattle.refs.specs.Door.{luma_length, chroma_length}
use Rattle.octets.specs.Bytes.{residuals_of}
use Rattle.plan.specs.tiling.Tiling.{picture_of}
use Rattle.plan.specs.RecordPlan.{records_of}
use Rattle.walk.specs.declared.checks.Still.{Still}
use Rattle.walk.specs.declared.Progress.{Progress}
use Rattle.camera.specs.replay.Verdict.{Lent, byte_verdict}
use Rattle.camera.specs.replay.Door.{block_written}
use Rattle.camera.specs.Written.{entry}
use Rattle.camera.specs.prediction.Entries.{has_block_room, flat_entry_no, mode_entry_no, planar_entry, dc_entry, angular_entry, chroma_block_entry}
use Rattle.camera.specs.prediction.Entries.{luma_block_entry}
use Rattle.camera.specs.gather.Entry.{luma_entry, chroma_entry}
use Rattle.promises.specs.tables.Exact.{◌when◌, ◌or◌, Exact, ExactFirst, Tells, exact_none, exact_row, first_row, all_of, at-most}
use Rattle.promises.specs.tables.Exact.{same}
use Rattle.promises.specs.tables.Table.{BadPicture, depth, size, picture, luma_table, chroma_table, chroma-number}
use Rattle.promises.proofs.tables.Table.{luma-number}
use Rattle.promises.specs.tables.Table.{angular_table, predict_table}
use Rattle.promises.specs.run_tables.TableWalk.{about, done, residual_rows}
use Rattle.promises.proofs.run_tables.TableWalk.{residuals_first, number_exact}
use Rattle.promises.specs.run_tables.TableBytes.{ShortRows, FewBytes}

-- the gathers: a plane of another length, or a buffer for fewer than 131 samples, or twice that
pub luma_refs : (plane : List ℕ) (g : LumaRefGeometry) (out : List ℕ)
    → Exact (luma_entry plane g out).number (luma_table ((¬ (length plane ≡ 2 * luma_length g)) or length out < 262) g)
unfolding luma_entry entry
luma_refs plane g out = luma-number (all_of (same (length plane) (2 * luma_length g)) (at-most 262 (length out))) g

pub chroma_refs : (cb cr : List ℕ) (g : ChromaRefGeometry) (out : List ℕ)
    → Exact (chroma_entry cb cr g out).number
    (chroma_table ((¬ (length cb ≡ 2 * chroma_length g)) or (¬ (length cr ≡ 2 * chroma_length g)) or length out < 524) g)
unfolding chroma_entry entry
chroma_refs cb cr g out =
    chroma-number (all_of (all_of (same (length cb) (2 * chroma_length g)) (same (length cr) (2 * chroma_length g)))
    (at-most 524 (length out))) g

module _ (n : ℕ) (above left out : List ℕ) where
  short_rows : (row : ℕ) → Tells (has_block_room row n (length above) (length left) (length out)) (ShortRows row n above left out)
  short_rows row = all_of (all_of (at-most row (length above)) (at-most row (length left))) (at-most (2 * (n * n)) (length out))

  few_bytes : Tells (has_block_room (2 * predictor_row n) n (length above) (length left) (length out)) (FewBytes n above left out)
  few_bytes = let e : 2 * (2 * n) ≡ 4 * n = omega arith in rw e (short_rows (4 * n))

  flat_number : Exact (flat_entry_no n (length above) (length left) (length out))
      ((2 when ¬ Size n) ∷ (5 when FewBytes n above left out) ∷ [])
  unfolding flat_entry_no
  flat_number = exact_row (size n) refl (λ e. exact_row few_bytes refl (λ e. exact_none))

  pub planar : Exact (planar_entry n above left out).number ((2 when ¬ Size n) ∷ (5 when FewBytes n above left out) ∷ [])
  unfolding planar_entry entry
  planar = flat_number

  pub dc : (edge : ℕ) → Exact (dc_entry n edge above left out).number ((2 when ¬ Size n) ∷ (5 when FewBytes n above left out) ∷ [])
  unfolding dc_entry entry
  dc edge = flat_number

  mode_number : (row bits : ℕ) {taken : Bool} {P Few : Type 0} → Tells taken P
      → Tells (has_block_room row n (length above) (length left) (length out)) Few
      → Exact (mode_entry_no row bits n taken (length above) (length left) (length out))
      ((1 when ¬ Depth bits) ∷ (2 when ¬ Size n) ∷ (3 when P) ∷ (5 when Few) ∷ [])
  unfolding mode_entry_no
  mode_number row bits t few =
      exact_row (depth bits) refl (λ e. exact_row (size n) refl
      (λ e. exact_row t refl (λ e. exact_row few refl (λ e. exact_none))))

  pub angular : (bits mode edge corner : ℕ) → Exact (angular_entry bits n mode edge corner above left out).number
      (angular_table bits n mode (FewBytes n above left out))
  unfolding angular_entry entry
  angular bits mode edge corner = mode_number (2 * predictor_row n) bits (all_of (at-most 2 mode) (at-most mode 34)) few_bytes

  pub chroma-block : (bits mode corner : ℕ) → Exact (chroma_block_entry bits n mode corner above left out).number
      (predict_table bits n mode (FewBytes n above left out))
  unfolding chroma_block_entry entry
  chroma-block bits mode corner = mode_number (2 * predictor_row n) bits (at-most mode 34) few_bytes

  -- a luma block's rows have 65 samples
  pub luma-block : (bits mode corner : ℕ) → Exact (luma_block_entry bits n mode corner above left out).number
      (predict_table bits n mode (ShortRows 130 n above left out))
  unfolding luma_block_entry entry
  luma-block bits mode corner = mode_number 130 bits (at-most mode 34) (short_rows 130)

-- the replay: its number, and the block number that it writes; a plan of bytes is to be whole records, and the result buffer has 8 bytes
pub replay : (s : Still) (p : Progress) (l : Lent)
    → let area : ℕ = s.frame.height * s.frame.width in
    ExactFirst done (about (byte_verdict s p.done l).no (block_written s p.done l))
    ((about 1 0 when ¬ Depth s.bits) ∷ (about 4 0 when BadPicture (picture_of s.frame))
    ∷ (about 5 0 when (¬ (l.plane ≡ 2 * area)) or (¬ (length l.residuals ≡ 4 * area)) or (¬ (length l.plan % 6 ≡ 0)) or l.result <
    8)
    ∷ residual_rows s (records_of l.plan) p (residuals_of l.residuals))
unfolding byte_verdict
replay s p l =
    let area : ℕ = s.frame.height * s.frame.width in
    number_exact s (records_of l.plan) p _ _
    (first_row (depth s.bits)
    (λ e. first_row (picture (picture_of s.frame))
    (λ ok. first_row
    (all_of (all_of (all_of (same l.plane (2 * area)) (same (length l.residuals) (4 * area))) (same (length l.plan % 6) 0))
    (at-most 8 l.result))
    (λ e. residuals_first s (records_of l.plan) p (residuals_of l.residuals) ok))))
