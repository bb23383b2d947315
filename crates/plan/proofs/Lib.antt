-- BlockRecord: a block record in memory, for every walk by hand over a list of them.
pub mod BlockRecord
