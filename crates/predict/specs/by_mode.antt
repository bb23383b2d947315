-- Door: what a call that is served has.
pub mod Door
