-- Entries: what prediction on bytes gives back and writes. Checks: its numbers, and what a call that is not refused has.
pub mod Entries
pub mod Checks
-- Blocks: a block that was made of rows in bytes, and stored as bytes.
pub mod Blocks
-- Luma: a luma block that was made of rows in bytes.
pub mod Luma
