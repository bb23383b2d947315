-- Domain: the tests of document 01's domain. Facts: what a test that holds says of the numbers. Refusal: the number of each refusal and
-- of an answer. Refused: what a number says of its answer.
pub mod Domain
pub mod Facts
pub mod Refusal
pub mod Refused
pub mod helpers
pub mod rows
