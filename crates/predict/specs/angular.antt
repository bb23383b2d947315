-- Unsigned: 8.4.4.2.6 with no number below 0; Lines: its references as rows of entries, and its tables.
pub mod Unsigned
pub mod Lines
-- Bridge: Unsigned is the standard's; Tables: the tables are.
pub mod Bridge
pub mod Tables
-- Door: what a call that is served has.
pub mod Door
-- Grid: columns of a block; Reach: how far an angle reads; Blocks: what the loops write is the standard's block.
pub mod Grid
pub mod Reach
pub mod Blocks
-- Parts: a vertical mode's references and rows, one after the other.
pub mod Parts
