-- Checks: what a call on a still refuses before it looks at blocks, and how the verdict on its plan goes on from there.
pub mod Checks
-- Laws: what joins the functions that check.
pub mod Laws
