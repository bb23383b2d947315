-- Residual: what the two calls give.
pub mod Residual
-- Narrow: residuals that fit an i16, which is sooner told than their range.
pub mod Narrow
-- Laws: the range of the residuals, and how the tests are taken apart.
pub mod Laws
