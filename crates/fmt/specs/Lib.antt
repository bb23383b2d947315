-- Fmt: document 01, module 1, of chroma format. Places: luma and chroma places, joined by subsampling.
pub mod Fmt
pub mod Places
pub mod depth
