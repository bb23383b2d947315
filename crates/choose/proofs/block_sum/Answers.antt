-- `choose::block_sum` meets its contract. Each arm is the side that it names. Rests on `run_sum`.
use mathlib.Core.Path.{◌≡◌, refl, ◌∙◌}
use native.Mathlib.Omega.{arith}
use Rattle.domain.specs.Facts.{last_size}
use Rattle.choose.specs.Choose.{source_at}
use Rattle.choose.specs.Early.{run_rows, from_row_0}
use Rattle.choose.proofs.block_sum.Goals as goal
use Rattle.choose.proofs.block_sum.Goals.{In_default}

last : (c : In_default) → c.args.n ≡ 32
last c =
    let n = c.args.n in
    last_size n c.requires.0 (λ e. let q : n ≡ 4 = e in omega arith) (λ e. let q : n ≡ 8 = e in omega arith)
    (λ e. let q : n ≡ 16 = e in omega arith)

pub returns-in-4 : goal.returns-in-4
returns-in-4 c = let a = c.args in
    rw c.in-4.is
    (c.run_sum.ensures.0 ∙ run_rows 4 0 a.source.now a.pred.now 4 refl
    ∙ from_row_0 4 a.source.now (source_at 4 a.pred.now))

pub returns-in-8 : goal.returns-in-8
returns-in-8 c = let a = c.args in
    rw c.in-8.is
    (c.run_sum-in-8.ensures.0 ∙ run_rows 8 0 a.source.now a.pred.now 8 refl
    ∙ from_row_0 8 a.source.now (source_at 8 a.pred.now))

pub returns-in-16 : goal.returns-in-16
returns-in-16 c = let a = c.args in
    rw c.in-16.is
    (c.run_sum-in-16.ensures.0 ∙ run_rows 16 0 a.source.now a.pred.now 16 refl
    ∙ from_row_0 16 a.source.now (source_at 16 a.pred.now))

pub returns-in_default : goal.returns-in_default
returns-in_default c = let a = c.args in
    rw (last (goal.at.returns-in_default c).In_default)
    (c.run_sum-in_default.ensures.0 ∙ run_rows 32 0 a.source.now a.pred.now 32 refl
    ∙ from_row_0 32 a.source.now (source_at 32 a.pred.now))
