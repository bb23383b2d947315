-- Document 01's demand 3; what the page on bytes (OnBytes) needs is here too. No code. Demand3: document 01's demand 3, for a reader,
-- over Calls: a call of walk or replay, and a chain of calls. Proof3 of proofs/demand3 proves it; Example there is a walk that is served.
pub mod Calls
pub mod Demand3
-- Chains: a chain of calls is one call. Accept: what it means that a call is not refused. Gives: what one call of a door gives.
-- Forms: one plan in its forms.
pub mod Chains
pub mod Accept
pub mod Gives
pub mod Forms
-- Blocks: a run of blocks from any block on. Range: a prediction is in range. Spots: samples and residuals by their block.
pub mod Blocks
pub mod Range
pub mod Spots
-- On bytes: Words has numbers and residuals as bytes. ProofBytes of proofs/demand3 proves OnBytes, ExampleBytes there is a replay that is
-- served.
pub mod Words
