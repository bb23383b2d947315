-- Starts: where a line of an angle starts, its fraction, and a block's first reference. Angles: the tables by the distance of a mode
-- from 18.
pub mod Starts
pub mod Angles
