-- The lemmas of this crate that crates above it cite.
pub mod Crash
pub mod Moments
pub mod OneCall
pub mod WholeCells
-- The others.
mod Calls
mod WholeBlocks
