-- What follows from the decoding order: it grows along a row and down a column, a block's cells have one run of numbers, and
-- availability is H.265's. Laws alone, which no code of order cites. Laws of the decoding order and of availability (document 01,
-- module 2; H.265 6.4.1, 6.5.2), and figures of it.
pub mod Laws
pub mod Figures
