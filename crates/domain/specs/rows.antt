-- Neighbours: the neighbours that a block's rows hold, and rows of zeros.
pub mod Neighbours
