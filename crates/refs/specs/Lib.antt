-- Document 01, modules 3 and 4: Gather (by any rule), Door (refusals and answers). Component: a format as the standard has it. Counts:
-- the rows from how far the neighbours reach. Spots: where they stand in a plane. Seen: what is read, and the rows made of it. Rules:
-- the luma and the chroma rule. Answers: how an answer is read. Served: numbers, and what a served call rests on.
pub mod Answers
pub mod Gather
pub mod Door
pub mod Component
pub mod Counts
pub mod Spots
pub mod Seen
pub mod Rules
pub mod Served
pub mod substitution
pub mod standard
