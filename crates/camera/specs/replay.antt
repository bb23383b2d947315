-- Verdict: what a call refuses, and its answer. VerdictLaws: what joins the functions that tell them.
pub mod Verdict
pub mod VerdictLaws
-- Door: what a call gives and leaves behind.
pub mod Door
-- Blocks: a rebuilt block's samples are of 16 bits.
pub mod Blocks
-- Laws: it is the replay of what the bytes spell. Spelt: what it leaves spells what the replay leaves.
pub mod Laws
pub mod Spelt
