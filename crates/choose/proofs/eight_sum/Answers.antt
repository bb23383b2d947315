-- `choose::eight_sum` meets its contract. Each arm is the side that it names. Rests on `run_sum`.
use mathlib.Core.Path.{◌≡◌, refl, ◌∙◌}
use native.Mathlib.Omega.{arith}
use Rattle.domain.specs.Facts.{last_size}
use Rattle.choose.specs.Early.{run_rows}
use Rattle.choose.proofs.eight_sum.Goals as goal
use Rattle.choose.proofs.eight_sum.Goals.{In_default}

last : (c : In_default) → c.args.n ≡ 32
last c =
    let n = c.args.n in
    let w = c.requires.1.0 in
    last_size n c.requires.0 (λ e. let q : n ≡ 4 = e in omega arith) (λ e. let q : n ≡ 8 = e in omega arith)
    (λ e. let q : n ≡ 16 = e in omega arith)

pub returns-in-16 : goal.returns-in-16
returns-in-16 c = let a = c.args in
    let e = c.run_sum.ensures in
    rw c.in-16.is (e.0 ∙ run_rows 16 a.first a.source.now a.pred.now 8 refl, omega (arith, e.1))

pub returns-in_default : goal.returns-in_default
returns-in_default c = let a = c.args in
    let e = c.run_sum-in_default.ensures in
    rw (last (goal.at.returns-in_default c).In_default) (e.0 ∙ run_rows 32 a.first a.source.now a.pred.now 8 refl, omega (arith, e.1))
