-- Document 01, 'use from C'. Door: what the gathers out of bytes refuse, and the rows by value. Line: rows as bytes, and number 5 in
-- its place. Entry: rows stored as bytes. Room: their number. Spelt: planes of bytes serve as the samples that they spell. Around:
-- what the code reads of a plane, and the rows of it. Bytes: samples as the bytes of a buffer. Stored: the rows as the code stores
-- them.
pub mod Door
pub mod Line
pub mod Entry
pub mod Room
pub mod Spelt
pub mod Around
pub mod Bytes
pub mod Stored
