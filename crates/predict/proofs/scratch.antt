-- Tables: the scratch struct in memory as its three tables, and their loan out of a `&mut AngularScratch`. Answers: what the two forms of a call say.
pub mod Tables
pub mod Answers
-- Local: a scratch in a local, and its loan as a `&mut AngularScratch`.
pub mod Local
