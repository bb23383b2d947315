-- Answers: what a call's answers say by numbers.
pub mod Answers
-- Door: what a call gives.
pub mod Door
-- Lent: what a call is lent, by name.
pub mod Lent
-- Listed: what a call comes to before its first write.
pub mod Listed
pub mod checks
pub mod block
pub mod block_rows
pub mod calls
pub mod lossless
