-- Lemmas that crates above cite.
pub mod Openings
pub mod Refusals
pub mod Verdicts
-- The others.
mod Disks
mod Ends
mod Judging
mod LastEntries
mod Limits
mod OpeningMoves
mod Reopened
