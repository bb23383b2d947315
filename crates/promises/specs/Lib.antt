-- What the owner asked for, on pages that a stranger reads; what rests on their words is in proofs/, page by page. tables and run_tables:
-- the rows of the table of numbers, and what a refusal leaves; one_answer: that a contract settles its answer. Demand 1 itself, the table
-- at every public function that gives a number, is proofs/Demand1. Demand 2: gathering, smoothing and prediction are H.265's. Demand 3:
-- walk and replay; OnBytes: the same for replays on bytes.
pub mod demand2
pub mod demand3
pub mod OnBytes
-- Program: intrawalk prints a refusal, or all blocks and `same`.
pub mod Program
-- Zero: a zero in a reference row is a black sample.
pub mod zero
-- Checksum: the picture checksum is Annex D's, and two calls split at a row give what one gives.
pub mod checksum
-- Choose: no mode does better than the chosen one, and every lower one does worse.
pub mod choose
-- Lenses: several lenses under one plan take turns with one scratch, and each has what it would have alone.
pub mod lenses
-- Errors: a report counts what its pairs have, each block under its mode, in any order and in any parts.
pub mod errors
pub mod tables
pub mod run_tables
pub mod one_answer
