use Rattle.plan.specs.verdict.Standing.{Standing}
use Rattle.plan.proofs.check.Given as goal

abbrev pub invariant-loop-i : goal.invariant-loop-i
invariant-loop-i g l = Standing l.frame (g.P.Blocks.plan l.plan) l.i (record { no = 0; block = 0; covered = l.covered })
