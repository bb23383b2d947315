-- `order::log2_of` meets its contract: at each side the logarithm computes.
use mathlib.Core.Path.{◌≡◌}
use mathlib.Core.Logic.{⊎_elim}
use Rattle.h265.specs.Notation.{halvings}
use Rattle.order.proofs.log2_of.Goals as goal

pub returns-in-4 : goal.returns-in-4
unfolding halvings
returns-in-4 c = rw c.in-4.is

pub returns-in-8 : goal.returns-in-8
unfolding halvings
returns-in-8 c = rw c.in-8.is

pub returns-in-16 : goal.returns-in-16
unfolding halvings
returns-in-16 c = rw c.in-16.is

pub returns-in-32 : goal.returns-in-32
unfolding halvings
returns-in-32 c = rw c.in-32.is

pub returns-in_default : goal.returns-in_default
unfolding halvings
returns-in_default c = let x = c.args.side in
    let r = c.in_default.in_default-own.rest in
    let e : x ≡ 64 = ⊎_elim (λ h. ⊎_elim (λ k. absurd (r.0.1 k)) (λ k. ⊎_elim (λ l. absurd (r.1 l)) (λ l. l) k) h) (λ h. ⊎_elim (λ k. absurd (r.0.0.0.1 k)) (λ k. absurd (r.0.0.1 k)) h) c.requires in
    rw e
