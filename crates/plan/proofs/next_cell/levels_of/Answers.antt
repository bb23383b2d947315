-- `next_cell::levels_of` meets its contract: at each CTU the logarithm computes.
use mathlib.Core.Path.{◌≡◌}
use mathlib.Core.Logic.{⊎_elim}
use Rattle.h265.specs.Notation.{halvings}
use Rattle.plan.proofs.next_cell.levels_of.Goals as goal

pub returns-in-16 : goal.returns-in-16
unfolding halvings
returns-in-16 c = rw c.in-16.is

pub returns-in-32 : goal.returns-in-32
unfolding halvings
returns-in-32 c = rw c.in-32.is

pub returns-in_default : goal.returns-in_default
unfolding halvings
returns-in_default c = let r = c.in_default.in_default-own.rest in
    let e : c.args.ctu ≡ 64 = ⊎_elim (λ h. absurd (r.0.1 h)) (⊎_elim (λ h. absurd (r.1 h)) (λ h. h)) c.requires in
    rw e
