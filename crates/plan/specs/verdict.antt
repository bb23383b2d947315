-- Standing: where the check stands after each block, and that it comes to the verdict.
pub mod Standing
