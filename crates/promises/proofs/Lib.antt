-- The theorems that rest on the words of specs/, page by page. Demand1: the table of numbers at every public function that gives one,
-- over its contract. Program: intrawalk prints a refusal, or all blocks and `same`.
pub mod Demand1
pub mod Program
pub mod demand3
pub mod lenses
pub mod zero
pub mod choose
pub mod tables
pub mod run_tables
