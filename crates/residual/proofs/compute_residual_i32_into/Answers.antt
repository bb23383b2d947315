-- `residual::compute_residual_i32_into` meets its contract. Served by the runs; refused, the buffer is kept. Assumes nothing.
use Rattle.std.proofs.Common.{length, sym, ◌∙◌, arith}
use Rattle.std.proofs.lemmas.Result.{err_from_is_err_and}
use Rattle.laws.specs.Choose.{worked, unserved}
use Rattle.domain.specs.Refused.{never_0}
use Rattle.residual.specs.Residual.{difference_at, residuals_after}
use Rattle.residual.specs.Laws.{size_fits, runs_fit}
use Rattle.residual.proofs.compute_residual_i32_into.Goals as goal

pub returns-in_err-check_block : goal.returns-in_err-check_block
unfolding residuals_after
returns-in_err-check_block c =
    let e = c.in_err-check_block.ensures in
    let p = err_from_is_err_and c.from_residual.result c.from_residual.ensures.1 in
    (rw (p.1, p.2) e, unserved _ _ _ (λ z. never_0 c.in_err-check_block.field-0.0 (e ∙ z)))

pub runs_of-requires : goal.runs_of-requires
runs_of-requires c = size_fits _ _ _ _ (sym c.in_ok-check_block.ensures)

pub fill_runs-requires : goal.fill_runs-requires
fill_runs-requires c = let a = c.args in
    let k = c.runs_of.ensures in
    let z = sym c.in_ok-check_block.ensures in
    let f = runs_fit a.n (length a.orig.now) (length a.pred.now) (length a.residual.now) z c.runs_of.result k.0 k.1 in
    record { fits = (f.few, f.third); callable = λ i h. (omega (arith, h, f.first), omega (arith, h, f.second)) }

pub returns : goal.returns
unfolding residuals_after
returns c = let a = c.args in
    let z = c.in_ok-check_block.ensures in
    let e = c.fill_runs.ensures (difference_at a.orig.now a.pred.now) (λ i v h p. p) in
    (z, (rw c.runs_of.ensures.0 at e) ∙ worked _ _ _ (sym z))
