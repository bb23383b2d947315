-- The numbers of a luma gather, and of the predictors whose scratch is lent, by the rows of specs/tables/Table. Rests on Exact.
use Rattle.std.specs.Prelude.{◌≡◌, Bool, List, ℕ, ◌*◌, length}
use Rattle.std.proofs.Math.Path.{refl}
use Rattle.refs.specs.declared.LumaRefGeometry.{LumaRefGeometry}
use Rattle.refs.specs.Door.{luma_block, luma_number, luma_length, luma_no, get_reference_samples}
use Rattle.camera.specs.gather.Door.{luma_bytes_no, luma_bytes_door}
use Rattle.predict.specs.refusals.Refusals.{Lengths, is_enough, angular_no, predict_no}
use Rattle.promises.specs.tables.Exact.{Exact, Tells, exact_none, exact_row}
use Rattle.promises.specs.tables.Exact.{same}
use Rattle.promises.specs.tables.Table.{Short, depth, size, picture, scratch, luma-place, luma_table, angular_table, predict_table, angular_number, predict_number, rows_short}

pub luma-number : {whole : Bool} {P : Type 0} → Tells whole P → (g : LumaRefGeometry) → Exact (luma_number whole g) (luma_table P g)
luma-number t g =
    exact_row (depth g.bits) refl
    (λ e. exact_row (size g.n) refl
    (λ e. exact_row (picture g.picture) refl (λ e. exact_row t refl (λ e. exact_row (luma-place (luma_block g)) refl (λ e. exact_none)))))

pub luma_gather : (plane : List ℕ) (g : LumaRefGeometry)
    → Exact (get_reference_samples plane g).no (luma_table (¬ (length plane ≡ luma_length g)) g)
unfolding get_reference_samples luma_no
luma_gather plane g = luma-number (same (length plane) (luma_length g)) g

pub luma_gather_bytes : (b : List ℕ) (g : LumaRefGeometry) → Exact (luma_bytes_door b g).no (luma_table (¬ (length b ≡ 2 * luma_length g)) g)
unfolding luma_bytes_door luma_bytes_no
luma_gather_bytes b g = luma-number (same (length b) (2 * luma_length g)) g

module _ (bits n mode : ℕ) where
  short : (l : Lengths) → Tells (is_enough n l) (Short n l)
  short l = scratch (rows_short bits n mode l.above l.left l.pred) l.refs l.indices l.fractions

  -- the tables as lent slices; the rows of a luma block come by value, 65 entries each
  pub predict_angular : (l : Lengths) → Exact (angular_no bits n mode l) (angular_table bits n mode (Short n l))
  predict_angular l = angular_number bits n mode l (short l)

  pub predict_chroma : (l : Lengths) → Exact (predict_no bits n mode l) (predict_table bits n mode (Short n l))
  predict_chroma l = predict_number bits n mode l (λ s. short l)
