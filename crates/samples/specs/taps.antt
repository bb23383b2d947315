-- Taps: one sample of a prediction over the samples that it mixes. Laws: the edge with no number below 0, and what holds in the domain.
pub mod Taps
pub mod Laws
