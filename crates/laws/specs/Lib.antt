-- What several crates need and that has no subject of its own; the bottom of the tree.
-- Fill: lists given by a function of the index, with FillLaws, the steps of the loops that make them.
pub mod Fill
pub mod FillLaws
-- Paint: a block in a flat list, such as a plane's.
pub mod Paint
-- Choose: answers by tests, and the first check that fails.
pub mod Choose
-- Every: a test of every entry of a list. Sum: sums over an index. Least: the first of the least values.
pub mod Every
pub mod Sum
pub mod Least
-- Table: a rule at every entry of a table, by one computed test.
pub mod Table
-- Bytes: little-endian numbers in a list of bytes.
pub mod Bytes
-- Chain: a chain of calls, each doing some units, is one call, over any unit.
pub mod Chain
-- Weigh: weighted sums, quotients and their bounds.
pub mod Weigh
-- Diff and Signed: whole numbers as differences, and as the machine holds them.
pub mod Diff
pub mod Signed
