-- The chooser over its contract, as the prover reads it. No code. Choose: what is promised. ProofChoose of proofs/choose proves it.
-- Figures: document 02's. Early: a search that drops modes early gives the same.
pub mod Choose
pub mod Figures
pub mod Early
