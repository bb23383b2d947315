-- Document 01, module 3: Substitution, Door (refusals and answers). Line: the laws of the line. FarEnd: a list filled from an entry
-- down. InPlace: the rows filled where they stand. Served: what a served call rests on.
pub mod Substitution
pub mod Door
pub mod Line
pub mod FarEnd
pub mod InPlace
pub mod Served
