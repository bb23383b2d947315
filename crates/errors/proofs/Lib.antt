-- ByMode: sums by mode add up to the whole. Limits: that a counted pair keeps the limits of number 15. Counted: what the verdict on a pair
-- tells of its count. Turns: a turn of the loop over its blocks.
pub mod ByMode
pub mod Limits
mod Counted
mod Turns
