-- Errors: what document 02's Wish 14 promises, on one page. ProofErrors proves it. Figures: document 02's.
pub mod Errors
pub mod ProofErrors
pub mod Figures
