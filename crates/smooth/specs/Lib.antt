-- Answers: what the doors' answers say in document 01's terms.
pub mod Answers
-- Smoothing: what the calls give.
pub mod Smoothing
-- Forms: the two forms of the standard's filtering, row by row.
pub mod Forms
-- Steps: the entries as the code works them out, and what a call that is not refused knows.
pub mod Steps
-- Standard: what is given is the standard's, and depends on entries 0 to 2n - 1 alone.
pub mod Standard
