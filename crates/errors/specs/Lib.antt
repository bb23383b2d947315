-- Errors: what a report counts, and what a pair of planes or another report adds to it.
-- Answers: what the calls' answers say.
pub mod Answers
pub mod Errors
-- Served: what a counted pair rests on. Limits: number 15. Added: any order, any parts. In proofs/, ByMode: sums by
-- mode add up to the whole; Limits: no sum is too large.
pub mod Served
pub mod Limits
pub mod Added
-- Blocks: a pair block by block.
pub mod Blocks
-- Listed: a pair under a plan of records, block by block.
pub mod Listed
-- RecordBytes: a report as bytes, with RecordLaws, how it is read and stored.
pub mod RecordBytes
pub mod RecordLaws
