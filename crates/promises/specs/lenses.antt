-- Several lenses under one plan that take turns with one scratch. No code. TurnLaw: the law of turns, over any call whose answer does
-- not go by the scratch. Lenses: what is promised of walk and replay. ProofLenses of
-- proofs/lenses and ProofDoors prove it. TwoLenses there: document 02's figure.
pub mod TurnLaw
pub mod Lenses
pub mod ProofDoors
