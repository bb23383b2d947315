use mathlib.Core.Path.{◌≡◌}
use mathlib.Core.Bool.{◌&&◌}
use Rattle.errors.specs.Errors.{plane_area}
use Rattle.errors.specs.Served.{Countable}
use Rattle.errors.specs.Blocks.{with_first}
use Rattle.errors.proofs.Report.count_pair.Given as goal

abbrev pub invariant-loop-k : goal.invariant-loop-k
invariant-loop-k g l =
    let s = g.S.Samples in
    let r = l.fn.self in
    Countable r (s.exactly l.a (plane_area r) && s.exactly l.b (plane_area r)) (s.list l.a) (s.list l.b) (g.P.Blocks.plan l.fn.plan)
    × (l.next ≡ with_first r (s.list l.a) (s.list l.b) (g.P.Blocks.plan l.fn.plan) l.k)
