-- Order: document 01, module 2, with the doors. The rest is what the proofs go by.
pub mod Answers
pub mod Order
pub mod CellWalk
pub mod Good
pub mod Spread
pub mod Signs
pub mod Reach
pub mod Leading
pub mod Edges
pub mod Walk
pub mod Blocks
pub mod cells
pub mod order_laws
