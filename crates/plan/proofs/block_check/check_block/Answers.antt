-- `block_check::check_block` meets its contract, test by test.
use mathlib.Core.Path.{sym, ◌∙◌}
use mathlib.Core.Bool.{true, false}
use Rattle.plan.specs.tiling.Tests.{no_2, no_3, no_6, no_last}
use Rattle.plan.proofs.block_check.check_block.Goals as goal

pub returns-then-not-size_ok : goal.returns-then-not-size_ok
returns-then-not-size_ok c = no_2 _ _ _ (sym c.size_ok.ensures ∙ c.if-not-size_ok.true)

pub returns-then-not-mode_ok : goal.returns-then-not-mode_ok
returns-then-not-mode_ok c = no_3 _ _ _ (sym c.size_ok.ensures ∙ c.if-not-size_ok.false) (sym c.mode_ok.ensures ∙ c.if-not-mode_ok.true)

pub returns-then-not-placed_ok : goal.returns-then-not-placed_ok
returns-then-not-placed_ok c = no_6 _ _ _ (sym c.size_ok.ensures ∙ c.if-not-size_ok.false) (sym c.mode_ok.ensures ∙ c.if-not-mode_ok.false) (sym c.placed_ok.ensures ∙ c.if-not-placed_ok.true)

pub returns-then-not-is_next : goal.returns-then-not-is_next
returns-then-not-is_next c = let size = sym c.size_ok.ensures ∙ c.if-not-size_ok.false in
    let place = sym c.placed_ok.ensures ∙ c.if-not-placed_ok.false in
    no_last _ _ _ size (sym c.mode_ok.ensures ∙ c.if-not-mode_ok.false) place false (sym c.is_next.ensures ∙ c.if-not-is_next.true)

pub returns : goal.returns
returns c = let size = sym c.size_ok.ensures ∙ c.if-not-size_ok.false in
    let place = sym c.placed_ok.ensures ∙ c.if-not-placed_ok.false in
    no_last _ _ _ size (sym c.mode_ok.ensures ∙ c.if-not-mode_ok.false) place true (sym c.is_next.ensures ∙ c.if-not-is_next.false)
