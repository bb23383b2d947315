-- That the rows of specs/run_tables are met: by the plan check, walk and replay, at the camera's entries, where errors are counted, and by
-- what intrawalk prints.
pub mod TableWalk
pub mod TableBytes
pub mod TableErrors
pub mod TableProgram
