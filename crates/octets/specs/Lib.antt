-- Bytes: samples, residuals and answers as bytes, little-endian.
pub mod Bytes
-- Laws: how many, what each is, and how one is stored.
pub mod Laws
pub mod pairs
