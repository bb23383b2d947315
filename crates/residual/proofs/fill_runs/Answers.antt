-- `residual::fill_runs` meets its contract: the entries of the runs passed are those that the closure gives. Assumes nothing.
use Rattle.std.proofs.Common.{◌+◌, ◌*◌, arith}
use Rattle.std.proofs.lemmas.List.{get_or_default}
use Rattle.laws.specs.FillLaws.{fill_none, fill_more, fill_done, run_none, run_more, run_done}
use Rattle.residual.specs.Laws.{by_run}
use Rattle.residual.proofs.fill_runs.Goals as goal

pub loop-r-init : goal.loop-r-init
loop-r-init g c = λ f says. fill_none _ _

pub loop-j-init : goal.loop-j-init
loop-j-init g c = λ f says. fill_none _ _

pub loop-j-preserved : goal.loop-j-preserved
loop-j-preserved g c = λ f says.
    fill_more _ _ (c.loop-j.invariant f says) (says (c.loop-r.r * 16 + c.loop-j.j) c.entry.result (omega arith) c.entry.ensures)

pub loop-j-2-init : goal.loop-j-2-init
loop-j-2-init g c = run_none _ _ _

pub loop-j-2-preserved : goal.loop-j-2-preserved
loop-j-2-preserved g c = run_more _ _ _ c.loop-j-2.invariant
    (get_or_default c.loop-j.run c.loop-j-2.j c.index-run-j-in-loop-j-2.result c.args.zero (omega arith))

pub loop-r-preserved : goal.loop-r-preserved
loop-r-preserved g c = λ f says.
    by_run f c.args.zero _ c.loop-r.r (fill_done _ _ (omega arith) (omega arith) (c.loop-j.invariant f says)) (c.loop-r.invariant f says)
    (run_done _ _ _ (omega arith) (omega arith) c.loop-j-2.invariant)
