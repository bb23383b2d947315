-- Depth: document 01, module 1, of bit depth. Laws: its figures by its bits.
pub mod Depth
pub mod Laws
