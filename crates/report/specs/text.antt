-- Text: the lines that are printed, and text laid over a buffer. Laws: the kit's digits. Laid: one text laid after the other. Digits:
-- the fewest digits, as the kit counts them.
pub mod Text
pub mod Laws
pub mod Laid
pub mod Digits
