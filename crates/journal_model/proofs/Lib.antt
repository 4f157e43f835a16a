-- The lemmas of this crate that crates above it cite.
pub mod Buffers
pub mod Effects
pub mod ListElements
