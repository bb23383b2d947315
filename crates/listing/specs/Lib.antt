-- Hex: what digits and words of a list mean. Drawn: what the programs that replay a list make of them. Laws: a turn of its loops.
pub mod Hex
pub mod Drawn
pub mod Laws
