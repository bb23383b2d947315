-- `residual::reconstruct_into` meets its contract. Served by the runs; refused, the buffer is kept. Assumes nothing.
use Rattle.std.proofs.Common.{length, sym, ◌∙◌, arith}
use Rattle.std.proofs.lemmas.Result.{err_from_is_err_and}
use Rattle.laws.specs.Choose.{worked, unserved}
use Rattle.domain.specs.Refused.{never_0}
use Rattle.fmt.specs.depth.Laws.{largest_of_is}
use Rattle.residual.specs.Residual.{rebuilt_to, reconstructed}
use Rattle.residual.specs.Laws.{size_fits, runs_fit, sound}
use Rattle.residual.proofs.reconstruct_into.Goals as goal

pub returns-in_err-check_rebuilding : goal.returns-in_err-check_rebuilding
unfolding reconstructed
returns-in_err-check_rebuilding c =
    let e = c.in_err-check_rebuilding.ensures in
    let p = err_from_is_err_and c.from_residual.result c.from_residual.ensures.1 in
    (rw (p.1, p.2) e, unserved _ _ _ (λ z. never_0 c.in_err-check_rebuilding.field-0.0 (e ∙ z)))

pub runs_of-requires : goal.runs_of-requires
runs_of-requires c = let s = c.args in
    let z = sound s.bits s.n (length s.pred.now) s.residual.now (length s.out.now) (sym c.in_ok-check_rebuilding.ensures) in
    size_fits _ _ _ _ z.buffers

pub fill_runs-requires : goal.fill_runs-requires
fill_runs-requires c = let s = c.args in
    let z = sound s.bits s.n (length s.pred.now) s.residual.now (length s.out.now) (sym c.in_ok-check_rebuilding.ensures) in
    let k = c.runs_of.ensures in
    let f = runs_fit s.n (length s.pred.now) (length s.residual.now) (length s.out.now) z.buffers c.runs_of.result k.0 k.1 in
    record {
      fits = (f.few, f.third);
      callable = λ i h. (omega (arith, h, f.first), omega (arith, h, f.second), z.small i (omega (arith, h, k.0)));
    }

pub returns : goal.returns
unfolding reconstructed
returns c = let a = c.args in
    let e = c.in_ok-check_rebuilding.ensures in
    let d = (sound a.bits a.n (length a.pred.now) a.residual.now (length a.out.now) (sym e)).depth in
    let all = c.fill_runs.ensures (rebuilt_to c.largest_of-largest.result a.pred.now a.residual.now) (λ i v h p. p) in
    (e, (rw (c.runs_of.ensures.0, c.largest_of-largest.ensures ∙ largest_of_is a.bits d) at all) ∙ worked _ _ _ (sym e))
