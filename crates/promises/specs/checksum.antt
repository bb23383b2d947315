-- The picture checksum over the contracts, as the prover reads them, of its door on samples, of the one on bytes and of the entry for C. No
-- code. Checksum: what is promised. ProofChecksum proves it. Figures: document 02's.
pub mod Checksum
pub mod ProofChecksum
pub mod Figures
