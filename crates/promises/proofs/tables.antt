-- Table: the numbers of a luma gather, and of the predictors whose scratch is lent.
pub mod Table
