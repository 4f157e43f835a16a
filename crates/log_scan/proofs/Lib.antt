-- The lemmas of this crate that crates above it cite.
pub mod Laps
pub mod Listed
pub mod ScanSteps
pub mod SoFar
-- The others.
mod Fronts
mod Looking
