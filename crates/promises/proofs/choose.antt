-- ProofChoose proves what is promised of the chooser.
pub mod ProofChoose
