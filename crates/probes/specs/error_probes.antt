-- Probes: the answer of the error report as the plain numbers that the entry hands over.
pub mod Probes
