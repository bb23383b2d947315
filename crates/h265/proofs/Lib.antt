-- Locality: what neighbours and predictions are read from, the available samples beside a block.
pub mod Locality
