-- The door: the check, then the work. Assumes nothing.
use Rattle.std.proofs.Common.{sym}
use Rattle.domain.specs.Facts.{depth_of}
use Rattle.fmt.specs.depth.Laws.{neutral_of_is}
use Rattle.refs.specs.substitution.Door.{substitute_refs}
use Rattle.refs.specs.substitution.Served.{substitute_fine}
use Rattle.refs.proofs.substitution.substitute_refs.Goals as goal

pub substitute-requires : goal.substitute-requires
substitute-requires c = (substitute_fine c.args.bits c.args.n (sym c.in_ok-check_substitute.ensures)).1

pub returns : goal.returns
unfolding substitute_refs
returns c = let a = c.args in
    let fine = substitute_fine a.bits a.n (sym c.in_ok-check_substitute.ensures) in
    simp (← c.in_ok-check_substitute.ensures, c.substitute.ensures, c.neutral_of.ensures, neutral_of_is a.bits (depth_of a.bits fine.0))
