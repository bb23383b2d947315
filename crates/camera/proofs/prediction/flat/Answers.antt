-- The rows and the buffer are long enough where the check passed. Rests on `predict_bytes`.
use Rattle.std.proofs.Common.{refl, sym, le-leb, arith}
use Rattle.camera.specs.prediction.Checks.{flat_fit}
use Rattle.camera.proofs.prediction.flat.Goals as goal

pub predict_bytes-requires : goal.predict_bytes-requires
predict_bytes-requires c = flat_fit _ _ _ _ (sym c.in_ok-check_flat_entry.ensures) 8 c.args.mode refl (le-leb c.args.mode 34 (omega (arith, c.requires)))
