-- `listing::draw_into` meets its contract: the entries passed are those of the numbers after the seed.
use Rattle.std.proofs.Common.{ℕ, ap, ◌∙◌}
use Rattle.laws.specs.FillLaws.{fill_none, fill_more}
use Rattle.listing.specs.Drawn.{next_of, drawn_sample}
use Rattle.listing.specs.Laws.{number_none, number_more}
use Rattle.listing.proofs.draw_into.Goals as goal

pub loop-slot-init : goal.loop-slot-init
loop-slot-init c = record { number = number_none _; drawn = fill_none _ _ }

pub loop-slot-preserved : goal.loop-slot-preserved
loop-slot-preserved c = let v = c.loop-slot.invariant in
    let x = c.next-x.ensures ∙ ap next_of v.number ∙ number_more _ _ in
    record { number = x; drawn = fill_more _ _ v.drawn (c.sample.ensures ∙ ap (λ (y : ℕ). drawn_sample y c.args.top) x) }
