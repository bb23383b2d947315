-- Rows: a block's rows stored. Ready: what the functions ask. Laws: what joins them.
pub mod Rows
pub mod Ready
pub mod Laws
