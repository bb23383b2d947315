-- TurnLaw: the law of turns. ProofLenses proves what is promised of walk and replay. TwoLenses: document 02's figure.
pub mod TurnLaw
pub mod ProofLenses
pub mod TwoLenses
