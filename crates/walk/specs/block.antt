-- One block of a still: what its prediction, its replay and its walk are, and what joins the functions that make them.
-- Predicted: its prediction. Bridge: it is the one from its gathered rows. Rebuilt: one block of the replay. Walked: one of the walk.
pub mod Predicted
pub mod Bridge
pub mod Rebuilt
pub mod Walked
-- Ready: what the work on a block asks.
pub mod Ready
-- Laws of each (the walk's are proofs/WalkedLaws); Stored: what the walk's residuals are.
pub mod PredictedLaws
pub mod RebuiltLaws
pub mod Stored
