-- Entry: what the choice of a mode on bytes gives back and writes. Laws: what a choice that is not refused has, and that the samples
-- that were read give the choice of the bytes.
pub mod Entry
pub mod Laws
