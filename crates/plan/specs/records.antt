-- Records: a block of a plan as bytes.
pub mod Records
