use Rattle.std.proofs.Common.{◌≡◌, ℕ, ◌+◌}
use Rattle.laws.specs.Fill.{fill}
use Rattle.refs.specs.substitution.InPlace.{past_above}
use Rattle.refs.proofs.substitution.fill_above.Given as goal

abbrev pub invariant-loop-i : goal.invariant-loop-i
invariant-loop-i l =
    (l.carried ≡ past_above l.has l.initial.row l.start l.i)
    × (l.row ≡ fill (λ (j : ℕ). past_above l.has l.initial.row l.start (j + 1)) l.i l.initial.row)
