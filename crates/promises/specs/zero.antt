-- That a zero in a reference row is a black sample and nothing else: over the contracts, as the prover reads them, of the luma gather, of
-- smoothing and of the predictors. No code.
-- Zero: what rows are made of, what a missing entry takes, and that entry 2n and the ones after it reach no predicted sample. ProofZero
-- of proofs/zero proves it.
pub mod Zero
