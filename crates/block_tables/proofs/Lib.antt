mod Bits
-- The lemmas of this crate that crates above it cite.
pub mod Lasts
pub mod Noted
pub mod Noting
-- The others.
mod Covering
mod Maps
mod Placing
