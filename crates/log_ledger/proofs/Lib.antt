-- The lemmas of this crate that crates above it cite.
pub mod Advancing
pub mod Ledgers
pub mod Outcomes
pub mod Pendings
pub mod Rounds
pub mod Running
-- The others.
mod Copies
mod PendingCommits
mod PendingLists
mod PendingRounds
mod PendingSame
mod Tags
mod TextBlocks
