-- ITU-T H.265 (April 2013), the clauses that intra prediction rests on, with what the 2014 edition varies as a parameter.
-- Written from the standard's rules, not from a program. Everything is total and computes.
-- Notation: shifts, Log2, Clip1, neighbours p[x][y]; Setting: what parameter sets and the coding unit fix.
pub mod Notation
pub mod Setting
-- 6.5.2, z-scan order
pub mod Order
-- 6.4.1, availability
pub mod Availability
-- 8.4.4.2.2, substitution
pub mod Substitution
-- 8.4.4.2.3, filtering of the neighbours
pub mod Filtering
-- 8.4.4.2.4, planar
pub mod Planar
-- 8.4.4.2.5, DC
pub mod Dc
-- 8.4.4.2.6, angular
pub mod Angular
-- 8.4.4.2.1, how the clauses make a block's prediction
pub mod Prediction
-- neighbours that agree where prediction reads them, and predictors that are means
pub mod Mean
-- the available samples beside a block, from which neighbours and predictions are read (proofs/Locality)
pub mod Locality
-- Annex D, the checksum of a decoded picture
pub mod Checksum
-- small evaluations, of other figures than document 01's
pub mod Examples
