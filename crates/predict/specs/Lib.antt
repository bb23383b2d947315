-- Lent: what a call is lent and what it gives, by name. Contents: what a served block holds is the standard's.
pub mod Lent
pub mod Contents
pub mod refusals
pub mod angles
pub mod planar_dc
pub mod angular
pub mod modes
pub mod by_mode
pub mod luma_rows
