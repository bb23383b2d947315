-- What a call of walk or replay refuses and leaves behind, and what its loop over the blocks rests on. Laws alone, apart from the
-- loops' code. Steps: how many blocks a call does. Places: where the residuals of a plan's blocks begin.
pub mod Steps
pub mod Places
-- Door: what a call refuses and leaves behind.
pub mod Door
-- Ready: what the loops over its blocks ask. Turns: the turns of such a loop.
pub mod Ready
pub mod Turns
-- Laws: what a verdict tells, that a refused call leaves all as it was, and what a call comes to.
pub mod Laws
