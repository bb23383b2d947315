-- Document 01's demand 2, on one page with its proof: over the contracts, as the prover reads them, of the doors of refs, smooth and
-- predict, and of the camera's entries for these. No code. Demand2: luma gathering, smoothing and prediction are those of H.265, a
-- statement for each door. Proof2 proves it.
pub mod Demand2
pub mod Proof2
-- Spelt2: the bytes that the camera's entries leave spell the standard's samples.
pub mod Spelt2
