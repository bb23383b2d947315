-- Sums: what is told of residuals and planes. Laws: what joins the loops that tell it.
pub mod Sums
pub mod Laws
