-- Probes: the doors' answers as the plain numbers that the entries hand over.
pub mod Probes
pub mod error_probes
pub mod walk_probes
