-- Filters: the strong form's limit, and the strong form as one quotient.
pub mod Filters
