-- Tiling: what blocks cover, and when a plan of them is good. Check: what refuses one, by a running count.
pub mod Tiling
pub mod Check
-- Cover: the running count decides exactly; blocks of a good plan are apart, and fill the picture. It rests on the tests.
pub mod Tests
pub mod Cover
-- Sums: what the blocks of a good plan add up to.
pub mod Sums
-- The cells counted: the cell that has a number, counts, the picture's cells, and the loop's turns.
pub mod Cell
pub mod Count
pub mod Area
pub mod Ahead
-- Plan: a plan as numbers and as records. PlanCheck: its verdict, by a running count. Figures: small verdicts.
pub mod Plan
pub mod PlanCheck
pub mod Figures
-- Next: a plan's order in the document's own words. Verdict: what each verdict tells; its number is 0 exactly when the plan is good.
pub mod Next
pub mod Verdict
-- Steps: the turns of a loop over the blocks.
pub mod Steps
