-- Spread: 6.5.2's inner sum, one coordinate at a time. Row: the CTUs in a row.
pub mod Spread
pub mod Row
