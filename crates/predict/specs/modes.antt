-- Which clause a mode takes, what a prediction reads and what it lies between. Laws alone, apart from the predictors' code.
-- Flat, Angular: what the samples of a predictor depend on and lie between. Modes: the clause that a mode takes, and the same for
-- every mode.
pub mod Flat
pub mod Angular
pub mod Modes
