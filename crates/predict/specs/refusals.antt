-- Refusals: the number of a call to each kind of predictor.
pub mod Refusals
