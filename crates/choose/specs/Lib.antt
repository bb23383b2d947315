-- Answers: what an answer says in document 02's terms. Choose: what the chooser refuses and what it gives. Ready: what a call that is served
-- has. Mirror: a horizontal mode is a vertical one, mirrored. Sums: the sum of a mode by the block that is predicted. Early: a mode that is
-- dropped once it has lost. Given: what a search is given, as contracts name it.
pub mod Answers
pub mod Choose
pub mod Ready
pub mod Mirror
pub mod Sums
pub mod Early
pub mod Given
