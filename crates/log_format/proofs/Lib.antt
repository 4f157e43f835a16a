-- The lemmas of this crate that crates above it cite.
pub mod Accepting
pub mod Formatted
pub mod Layouts
pub mod Superblocks
pub mod Widening
pub mod Written
-- The others.
mod Counts
mod Flags
mod Formatting
mod Numbers
mod Reading
mod Revokes
mod Writing
