-- LumaRows: the rows of a luma block.
pub mod LumaRows
