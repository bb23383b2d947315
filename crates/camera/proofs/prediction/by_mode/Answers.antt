-- The rows and the buffer are long enough where the check passed. Rests on `predict_bytes`.
use Rattle.std.proofs.Common.{◌≡◌, true, sym, arith, length}
use Rattle.predict.specs.by_mode.Door.{Predictable, highest}
use Rattle.camera.specs.prediction.Checks.{HasRoom, mode_fit}
use Rattle.camera.proofs.prediction.by_mode.Goals as goal
use Rattle.camera.proofs.prediction.by_mode.Goals.{In_ok-check_mode_entry}

served : (c : In_ok-check_mode_entry) → let a = c.args in
    Predictable a.bits a.n a.mode × (HasRoom a.n (length a.above.now) (length a.left.now) (length a.out.now) × (a.taken ≡ true))
served c = mode_fit _ _ _ c.args.mode _ _ _ c.args.taken (λ s. omega arith) c.requires (sym c.in_ok-check_mode_entry.ensures)

pub overflow_cast-mode : goal.overflow_cast-mode
overflow_cast-mode c = omega (arith, highest (served (goal.at.overflow_cast-mode c).In_ok-check_mode_entry).0)

pub predict_bytes-requires : goal.predict_bytes-requires
predict_bytes-requires c = let s = served (goal.at.predict_bytes-requires c).In_ok-check_mode_entry in (s.0, s.1.0)
