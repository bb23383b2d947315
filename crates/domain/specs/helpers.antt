-- Ways: the cases of a sign, and what the clamp gives in each.
pub mod Ways
