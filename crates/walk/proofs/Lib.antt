-- CallLaws: how far a call goes, what its loop asks and what it leaves. Found: what the answer of the plan check tells a call. Listed:
-- what a call comes to, by its answer. WalkedLaws: what joins the functions that walk a block. Walks: the walk of a plan over flat planes
-- stores the source less the prediction. Again: a `&mut` slice that is lent again for a call, and comes back.
mod CallLaws
mod Found
mod Listed
mod WalkedLaws
pub mod Walks
mod Again
