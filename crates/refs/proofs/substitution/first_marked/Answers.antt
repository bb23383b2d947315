-- The search along the line. Assumes nothing.
use Rattle.std.proofs.Common.{◌≡◌, sym, ◌∙◌, ◌+◌, ◌*◌, arith}
use Rattle.refs.specs.substitution.Line.{first_here, first_skip, first_end}
use Rattle.refs.proofs.substitution.first_marked.Goals as goal

pub returns-then-flag_on : goal.returns-then-flag_on
returns-then-flag_on c = sym (c.loop-p.invariant ∙ first_here _ _ _ c.loop-p-test.true (sym c.flag_on.ensures ∙ c.if-flag_on.true))

pub loop-p-preserved : goal.loop-p-preserved
loop-p-preserved c = c.loop-p.invariant ∙ first_skip _ _ _ c.loop-p-test.true (sym c.flag_on.ensures ∙ c.if-flag_on.false)

pub returns : goal.returns
returns c =
    let end : c.loop-p.p ≡ 2 * c.args.e + 3 = omega arith in
    sym (c.loop-p.invariant ∙ first_end _ _ _ c.loop-p-test.false ∙ end)
