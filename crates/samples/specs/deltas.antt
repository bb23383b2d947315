-- Deltas: the range of a residual. Laws: the round trip, the range, and the sum that fits. Raised: a residual raised until it is not
-- below 0, and its range told by that.
pub mod Deltas
pub mod Laws
pub mod Raised
