-- `prediction::angular` meets its contract. Rests on `by_mode`.
use Rattle.std.proofs.Common.{◌∙◌, leb-true}
use Rattle.std.specs.Prelude.{leb}
use Rattle.laws.specs.Choose.{both_true}
use Rattle.domain.specs.Domain.{mode_ok}
use Rattle.camera.specs.Written.{same_entry}
use Rattle.camera.specs.prediction.Entries.{angular_entry}
use Rattle.camera.specs.prediction.Checks.{mode_taken}
use Rattle.camera.specs.prediction.Blocks.{angular_asked}
use Rattle.camera.proofs.prediction.angular.Goals as goal

pub by_mode-requires : goal.by_mode-requires
by_mode-requires c = let m = c.args.mode in λ t. (both_true (leb 2 m) (mode_ok m) t).1

pub returns : goal.returns
unfolding angular_entry
returns c = let a = c.args in
    c.by_mode.ensures
    ∙ same_entry _ _ _ a.out.now
    (λ z. angular_asked a.n a.above.now a.left.now a.out.now a.bits a.mode a.corner _
    (leb-true 2 a.mode (both_true (leb 2 a.mode) (mode_ok a.mode) (mode_taken _ _ _ _ _ _ _ z)).0))
