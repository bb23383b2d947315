-- Flat: what the loops ask of a call, and one sample of planar. Text: that planar and the DC value are the standard's.
-- Stores: laws of stores into a block. Edge: the DC edge as stores.
pub mod Flat
pub mod Text
pub mod Stores
pub mod Edge
