-- Checksum: what a call gives and refuses. Answers: how an answer is read. Served: what a call that is not refused rests on. Laws: the
-- sum modulo two to the 32, and where a range is split.
pub mod Answers
pub mod Checksum
pub mod Served
pub mod Laws
