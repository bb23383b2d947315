-- ProofZero proves that a zero in a reference row is a black sample and nothing else.
pub mod ProofZero
