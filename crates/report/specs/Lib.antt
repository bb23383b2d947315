-- Told: what the program prints.
pub mod Told
-- Laws: what joins the functions that lay all lines. Whole: what joins them with walk and replay.
pub mod Laws
pub mod Whole
pub mod file
pub mod sums
pub mod text
