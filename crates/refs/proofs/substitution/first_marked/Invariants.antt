use Rattle.std.proofs.Common.{◌≡◌, ◌-◌, false}
use Rattle.h265.specs.Substitution.{first_marked}
use Rattle.refs.specs.substitution.Line.{line_of}
use Rattle.refs.proofs.substitution.first_marked.Given as goal

abbrev pub invariant-loop-p : goal.invariant-loop-p
invariant-loop-p l =
    first_marked (line_of false l.left l.corner l.above l.e) 0 l.total
    ≡ first_marked (line_of false l.left l.corner l.above l.e) l.p (l.total - l.p)
