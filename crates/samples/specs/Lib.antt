-- A folder for each module: taps, a predicted sample; filters, a smoothed reference; deltas, a residual.
pub mod taps
pub mod filters
pub mod deltas
