-- Lemmas that crates above cite.
pub mod Telling
-- The others.
mod Closing
mod InOrder
mod TakenNames
mod Turning
