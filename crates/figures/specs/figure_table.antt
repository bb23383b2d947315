-- Document 01's figures P1 to P10, one table under one theorem; crate figures prints the same table. And document 02's, where a request
-- has figures. Laws alone.
-- Figures: document 01's figures P1 to P10, one table under one theorem.
pub mod Figures
-- Shorter: rows of 2n entries into the predictors, Wish 11.
pub mod Shorter
