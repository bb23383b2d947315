use Rattle.std.proofs.Common.{◌≡◌, ℕ, ◌+◌}
use Rattle.laws.specs.Fill.{fill}
use Rattle.listing.specs.Drawn.{number_after, drawn_sample}
use Rattle.listing.proofs.draw_into.Given as goal

abbrev pub invariant-loop-slot : goal.invariant-loop-slot
invariant-loop-slot l = record {
  number : l.x ≡ number_after l.seed l.slot-index;
  drawn : l.slot-items ≡ fill (λ (j : ℕ). drawn_sample (number_after l.seed (j + 1)) l.top) l.slot-index l.fn.out;
}
