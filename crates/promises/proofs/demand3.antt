-- Proof3 proves demand 3, ProofBytes the same on bytes (OnBytes). Example: a walk that is served; ExampleBytes: a replay.
pub mod Proof3
pub mod Example
pub mod ProofBytes
pub mod ExampleBytes
