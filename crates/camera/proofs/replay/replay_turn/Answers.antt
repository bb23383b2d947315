-- `replay::replay_turn` meets its contract: a turn of the loop over the records.
use native.Mathlib.Omega.{arith}
use Rattle.octets.specs.Laws.{length_residuals}
use Rattle.camera.proofs.replay.replay_turn.Goals as goal

pub overflow_add-next : goal.overflow_add-next
overflow_add-next c = omega (arith, c.requires.1.0.resid_in, length_residuals c.args.residuals.now)
